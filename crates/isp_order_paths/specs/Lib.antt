pub mod PathOrder
