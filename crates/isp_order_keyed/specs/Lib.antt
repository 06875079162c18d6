pub mod KeyedOrder
