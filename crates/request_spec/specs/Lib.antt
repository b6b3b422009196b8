pub mod Packet
pub mod RequestCheck
pub mod Verdict
pub mod Claims
