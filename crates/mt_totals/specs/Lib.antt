pub mod Totals
pub mod Whole
pub mod Tallies
