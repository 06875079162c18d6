pub mod ReasonLaws
pub mod TextFacts
