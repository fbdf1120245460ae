pub mod Distinct
pub mod Heads
pub mod Ranking
pub mod Writing
pub mod Telling
