pub mod Sequence
pub mod Claims
