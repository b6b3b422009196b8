pub mod Steps
pub mod Follow
pub mod Whole
pub mod Lost
pub mod Before
pub mod Example
