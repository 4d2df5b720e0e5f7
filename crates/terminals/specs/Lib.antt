pub mod Arrivals
pub mod Screen
