pub mod Backs
pub mod Laws
pub mod Noting
pub mod Order
pub mod Roots
pub mod Trxs
pub mod Transactions
pub mod Writes
