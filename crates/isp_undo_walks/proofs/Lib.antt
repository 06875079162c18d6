pub mod ChainLaws
pub mod LinkLaws
pub mod PageLaws
pub mod WalkLaws
