pub mod Alone
pub mod Answers
pub mod Laws
pub mod Script
pub mod Serial
pub mod Spelling
pub mod Transactions
