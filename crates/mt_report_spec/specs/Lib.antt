pub mod Held
pub mod Lines
pub mod Near
pub mod Counts
