pub mod Ranks
pub mod Order
pub mod Frequencies
pub mod Sketches
pub mod Thesaurus
