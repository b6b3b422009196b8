pub mod Answers
pub mod Storing
pub mod Reasons
pub mod Uses
pub mod Unreliable
pub mod Causes
pub mod Entries
