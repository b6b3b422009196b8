pub mod Pieces
pub mod Claims
