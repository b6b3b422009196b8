pub mod Words
pub mod Pair
pub mod Fields
pub mod Claims
