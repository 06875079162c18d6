pub mod EventLaws
pub mod AwakeLaws
pub mod RoundLaws
