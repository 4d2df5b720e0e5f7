pub mod Arrivals
pub mod Failing
pub mod Records
