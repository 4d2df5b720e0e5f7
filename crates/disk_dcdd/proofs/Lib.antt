pub mod Outstanding
pub mod Addresses
