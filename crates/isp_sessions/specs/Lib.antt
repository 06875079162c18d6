pub mod Sql
pub mod Plays
pub mod Runs
