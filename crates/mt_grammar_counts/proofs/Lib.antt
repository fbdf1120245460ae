pub mod Parts
pub mod Alone
pub mod Values
pub mod Blaming
pub mod LineLists
pub mod TextLists
pub mod GroupLists
pub mod Ending
