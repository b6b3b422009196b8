pub mod Effects
pub mod Numbers
pub mod Sizes
pub mod Refusals
