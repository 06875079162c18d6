pub mod TreeParts
pub mod NoteParts
pub mod WholeLaws
pub mod CoveredLaws
pub mod KnownLaws
pub mod MissedLaws
