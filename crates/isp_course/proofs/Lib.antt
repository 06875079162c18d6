pub mod ReadLaws
pub mod CourseParts
pub mod CourseLaws
