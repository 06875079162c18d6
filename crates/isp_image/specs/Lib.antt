pub mod Courses
pub mod Databases
pub mod Faults
pub mod Files
pub mod Keyed
pub mod Laws
