pub mod TextLaws
pub mod PrintLaws
pub mod RunLaws
pub mod PlayLaws
pub mod ReplyLaws
pub mod ExitLaws
