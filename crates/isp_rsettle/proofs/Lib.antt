mod NeedLaws
mod PartLaws
mod RiseLaws
pub mod SettleLaws
mod WayLaws
