pub mod WorkOrder
