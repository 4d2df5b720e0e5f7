pub mod Limits
pub mod Completions
pub mod Keeping
pub mod Callbacks
pub mod Operations
pub mod Slots
pub mod Pending
