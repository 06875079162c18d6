pub mod DivisionLaws
pub mod Examples
pub mod SearchExamples
pub mod TreeLaws
