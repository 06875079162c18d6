pub mod Calls
pub mod InMemory
pub mod Kept
pub mod Laws
pub mod Moments
pub mod Outside
pub mod Phases
pub mod Stops
