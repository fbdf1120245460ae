pub mod Gets
pub mod InOrder
pub mod Tokens
pub mod Texts
pub mod Marks
pub mod Taken
pub mod LiveTexts
