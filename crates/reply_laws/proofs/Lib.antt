pub mod Replies
pub mod Draining
