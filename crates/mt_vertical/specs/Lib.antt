pub mod Causes
pub mod Columns
pub mod Lines
pub mod Outlines
pub mod Readers
pub mod TagForms
pub mod TagReading
pub mod TextLaws
