pub mod LabelParts
pub mod NotedLaws
