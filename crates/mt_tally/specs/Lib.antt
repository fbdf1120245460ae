pub mod Counts
pub mod Conds
pub mod Tallies
