pub mod Message
pub mod Next
pub mod Cut
pub mod Claims
pub mod Numbers
