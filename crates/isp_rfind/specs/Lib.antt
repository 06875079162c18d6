pub mod Finding
pub mod Stack
pub mod Walks
