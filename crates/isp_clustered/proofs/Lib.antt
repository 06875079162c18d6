mod ChangeLaws
mod KeptLaws
mod PutLaws
pub mod TreeLaws
mod WholeLaws
