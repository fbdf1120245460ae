pub mod Causes
pub mod Cuts
pub mod Marks
pub mod Named
pub mod Needed
pub mod SoFar
pub mod Taken
pub mod Utf8
