pub mod ChangesLaws
pub mod GivingLaws
pub mod SpaceLaws
pub mod TakingLaws
