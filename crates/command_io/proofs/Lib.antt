pub mod Inputs
pub mod Sectors
pub mod Handing
pub mod Scripts
pub mod Places
