pub mod CountsOf
pub mod Told
pub mod Tallied
