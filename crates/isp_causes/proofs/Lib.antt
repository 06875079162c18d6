pub mod CauseLaws
pub mod EventCases
