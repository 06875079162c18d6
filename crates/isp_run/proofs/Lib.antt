pub mod PlaceLaws
pub mod RunLaws
pub mod SlotLaws
pub mod WorkLaws
pub mod StartLaws
pub mod CommandLaws
