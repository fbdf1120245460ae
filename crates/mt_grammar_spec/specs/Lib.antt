pub mod GrammarLines
pub mod GrammarFile
pub mod ReadGrammar
pub mod ValidGrammar
