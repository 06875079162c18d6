pub mod EndLaws
pub mod RunLaws
pub mod MeantLaws
pub mod SuitLaws
pub mod SweepLaws
