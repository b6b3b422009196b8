pub mod Fits
pub mod Either
