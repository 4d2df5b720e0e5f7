pub mod Replaying
pub mod Standing
pub mod Following
pub mod Checking
