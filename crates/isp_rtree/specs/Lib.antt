pub mod Calls
pub mod Growing
pub mod Making
pub mod Paths
pub mod Removing
pub mod Trees
