pub mod Tokens
pub mod Trees
pub mod Measures
pub mod Meaning
pub mod Verdicts
pub mod Printed
pub mod Valid
pub mod Contents
