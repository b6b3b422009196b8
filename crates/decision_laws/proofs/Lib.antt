pub mod Checked
pub mod Codes
pub mod Inside
pub mod Views
pub mod Rows
pub mod Ways
