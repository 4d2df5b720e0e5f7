pub mod Stepping
pub mod Runs
pub mod Lagging
pub mod Straying
