pub mod Candidates
pub mod Nodes
