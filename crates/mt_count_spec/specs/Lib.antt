pub mod Instances
pub mod Counts
