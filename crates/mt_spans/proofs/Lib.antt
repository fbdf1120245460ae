pub mod Ascending
pub mod Corpora
