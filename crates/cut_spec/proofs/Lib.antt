pub mod Bounds
pub mod Shapes
pub mod Fitting
pub mod Steps
pub mod Fits
pub mod Whole
pub mod Numbers
pub mod Answers
