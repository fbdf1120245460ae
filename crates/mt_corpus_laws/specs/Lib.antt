pub mod Laws
pub mod Joined
