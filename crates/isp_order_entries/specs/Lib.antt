pub mod EntryOrder
