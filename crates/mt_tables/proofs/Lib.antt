pub mod Corpora
pub mod Small
