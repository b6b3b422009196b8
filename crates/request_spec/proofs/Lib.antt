pub mod Conditions
pub mod Order
pub mod Answered
pub mod Taken
