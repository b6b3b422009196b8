pub mod RequestKind
pub mod Host
pub mod Packets
pub mod Left
pub mod Headers
pub mod Cutting
pub mod Claims
