pub mod Members
pub mod Walks
pub mod Rounds
pub mod Lists
pub mod LevelLemmas
pub mod VictimLemmas
