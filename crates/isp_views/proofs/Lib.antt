pub mod SeenLaws
pub mod ViewLaws
pub mod MovedLaws
pub mod EndLaws
