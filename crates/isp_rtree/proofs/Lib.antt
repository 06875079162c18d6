mod GrowLaws
mod MakeLaws
pub mod PathLaws
mod RemoveLaws
pub mod TreeLaws
