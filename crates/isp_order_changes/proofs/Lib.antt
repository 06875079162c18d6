pub mod ChangingLaws
