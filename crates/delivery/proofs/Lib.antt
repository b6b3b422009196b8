pub mod Whole
pub mod Witness
pub mod InOrder
pub mod Example
