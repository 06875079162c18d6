pub mod SearchOrder
