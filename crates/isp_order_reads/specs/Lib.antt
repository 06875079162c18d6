pub mod ReadOrder
