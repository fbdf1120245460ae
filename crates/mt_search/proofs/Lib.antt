pub mod Places
pub mod Order
pub mod Finding
pub mod Groups
pub mod Taken
