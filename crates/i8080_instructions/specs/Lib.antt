pub mod Place
pub mod Quiet
