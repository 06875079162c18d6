pub mod SumLaws
pub mod StayLaws
pub mod OnPageLaws
pub mod LeafLaws
pub mod PathLaws
pub mod DepthLaws
