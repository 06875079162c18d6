pub mod DivisionLaws
pub mod GroupLaws
pub mod NextLaws
pub mod SeedLaws
