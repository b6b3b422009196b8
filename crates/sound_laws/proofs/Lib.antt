pub mod Leads
pub mod Executes
pub mod Decisions
pub mod Kept
