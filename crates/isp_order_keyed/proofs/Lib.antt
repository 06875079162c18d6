pub mod LeafParts
pub mod StoredParts
pub mod TableParts
pub mod KeyedLaws
