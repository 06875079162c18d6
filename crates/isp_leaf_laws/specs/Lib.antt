pub mod LeafLaws
pub mod TreeLaws
