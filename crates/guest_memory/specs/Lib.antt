pub mod Laws
pub mod Limits
pub mod Pages
pub mod Storage
