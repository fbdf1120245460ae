pub mod Scores
pub mod Sums
pub mod Building
pub mod Told
