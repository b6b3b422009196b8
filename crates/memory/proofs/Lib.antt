pub mod Overwrite
pub mod Words
