pub mod Message
pub mod Example
