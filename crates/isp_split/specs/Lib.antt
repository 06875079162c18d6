pub mod Division
pub mod Groups
pub mod Next
pub mod Pairs
pub mod Seeds
pub mod UnderWay
