pub mod SerialAfter
pub mod EventLaws
