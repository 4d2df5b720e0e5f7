pub mod Names
pub mod OperationMap
pub mod Slots
pub mod SlotChanges
