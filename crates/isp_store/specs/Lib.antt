pub mod State
pub mod Running
pub mod Calls
pub mod Inside
pub mod Starting
pub mod Recovered
