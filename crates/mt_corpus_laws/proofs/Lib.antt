pub mod Local
pub mod Ascending
pub mod Joining
pub mod Places
pub mod Joined
pub mod Over
pub mod Told
