pub mod Auto
pub mod Tests
pub mod Numbers
pub mod Lists
pub mod Tables
