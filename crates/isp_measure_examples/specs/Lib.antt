pub mod Falling
pub mod UndoCounted
