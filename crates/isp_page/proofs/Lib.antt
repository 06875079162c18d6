mod Differences
pub mod GrowthLaws
mod Making
mod Touching
