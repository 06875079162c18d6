pub mod LockOrder
