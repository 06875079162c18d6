pub mod Graphs
pub mod Cycles
pub mod Victims
pub mod Levels
