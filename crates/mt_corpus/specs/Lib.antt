pub mod Held
pub mod Keeping
pub mod Added
pub mod Named
