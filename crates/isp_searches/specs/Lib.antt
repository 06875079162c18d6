pub mod SearchLaws
pub mod WholeRuns
pub mod WrongSteps
