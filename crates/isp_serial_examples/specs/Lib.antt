pub mod ServedRuns
pub mod NeededClauses
pub mod OutgrownRows
