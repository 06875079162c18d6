pub mod RestedPoints
pub mod ThreeSessions
pub mod BrokenClauses
pub mod Deadlock
