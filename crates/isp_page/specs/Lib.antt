pub mod Calls
pub mod Differences
pub mod InMemory
pub mod State
pub mod Steps
pub mod Touched
