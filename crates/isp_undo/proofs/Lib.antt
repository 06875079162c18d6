pub mod CutLaws
pub mod PopLaws
pub mod PushLaws
pub mod StackLaws
