pub mod CountLaws
pub mod LeafLaws
pub mod MiniLaws
pub mod PathLaws
pub mod RisingLaws
pub mod TakenLaws
