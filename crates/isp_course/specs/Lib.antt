pub mod CourseOrder
