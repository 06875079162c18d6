pub mod Calls
pub mod TableLists
pub mod Opened
pub mod Creations
