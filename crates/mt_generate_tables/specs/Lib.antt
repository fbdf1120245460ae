pub mod Coded
pub mod Joined
