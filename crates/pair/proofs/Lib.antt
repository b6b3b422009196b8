pub mod Tests
pub mod Known
pub mod Begin
pub mod Adding
pub mod Posting
pub mod Kept
