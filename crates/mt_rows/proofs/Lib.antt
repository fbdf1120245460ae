pub mod Joined
pub mod Keeping
pub mod SpansOf
pub mod Sweeps
pub mod Marking
pub mod Nine
