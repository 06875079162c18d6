pub mod Standing
pub mod Starting
pub mod Changing
pub mod Events
