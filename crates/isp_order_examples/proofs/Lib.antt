pub mod RestedPointLaws
pub mod BrokenLaws
