pub mod Stream
pub mod Plain
pub mod Demand
pub mod Made
pub mod Asked
pub mod Numbers
