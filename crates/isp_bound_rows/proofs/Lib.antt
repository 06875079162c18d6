pub mod ChainLaws
pub mod ValueLaws
pub mod MeaningLaws
pub mod NameLaws
pub mod NamedLaws
pub mod SchemaLaws
