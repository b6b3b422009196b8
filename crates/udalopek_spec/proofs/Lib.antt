pub mod Steps
pub mod Left
pub mod Done
pub mod Claims
pub mod Keeps
pub mod Widths
pub mod Stays
pub mod Messages
