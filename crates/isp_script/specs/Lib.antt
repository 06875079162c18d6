pub mod BadLines
pub mod Grammar
pub mod Laws
pub mod Lines
pub mod Reading
pub mod Results
