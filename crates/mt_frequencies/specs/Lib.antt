pub mod Tallies
pub mod Distances
pub mod Tokens
pub mod Collocates
pub mod Amounts
pub mod Numbers
pub mod Seen
pub mod Runs
