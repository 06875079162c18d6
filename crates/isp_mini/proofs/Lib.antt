pub mod BodyLaws
pub mod ExtentLaws
pub mod RangeLaws
