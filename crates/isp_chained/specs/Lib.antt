pub mod Chained
pub mod Courses
pub mod Laws
pub mod Steps
