pub mod Asking
pub mod Causes
pub mod Ending
pub mod Files
pub mod Ran
pub mod Reading
pub mod Working
