pub mod Packet
pub mod Claims
