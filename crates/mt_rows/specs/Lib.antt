pub mod Rows
pub mod Appends
pub mod Marks
pub mod Laws
pub mod Filters
pub mod LabelSets
