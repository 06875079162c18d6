pub mod CreateLaws
mod TwoSteps
