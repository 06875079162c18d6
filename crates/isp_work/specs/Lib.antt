pub mod Works
pub mod Starting
pub mod Finding
