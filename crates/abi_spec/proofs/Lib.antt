pub mod Places
pub mod Lists
pub mod Laws
pub mod Headers
