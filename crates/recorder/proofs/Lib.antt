pub mod Recorded
pub mod Advances
pub mod Runs
