pub mod Names
pub mod Waiting
pub mod Places
pub mod Standing
pub mod Shown
