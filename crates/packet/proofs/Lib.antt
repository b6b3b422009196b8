pub mod Pads
pub mod Passes
pub mod Bytes
pub mod ReadBack
pub mod Refusals
