pub mod Leaves
pub mod Rings
pub mod Regions
pub mod Search
