pub mod OrderLaws
pub mod ListFacts
pub mod SumLaws
