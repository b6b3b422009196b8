pub mod Memory
pub mod Word
pub mod Claims
