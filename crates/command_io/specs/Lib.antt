pub mod Images
pub mod Inputs
pub mod Typed
pub mod Scripts
pub mod Reports
pub mod Statuses
pub mod Saving
