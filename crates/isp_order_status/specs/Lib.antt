pub mod StatusOrder
