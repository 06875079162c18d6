pub mod BesideLaws
pub mod GrowLaws
pub mod LeafGrow
pub mod SeamLaws
pub mod SpotLaws
pub mod StepLaws
