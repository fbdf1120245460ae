pub mod Accepted
pub mod Bits
pub mod KnownValues
pub mod Marked
pub mod PlainMarks
pub mod PlainMatching
pub mod PlainReading
pub mod Reading
