pub mod Kind
pub mod Place
pub mod Service
pub mod Low
pub mod Follows
pub mod Length
pub mod Opcode
pub mod Claims
