pub mod Stands
pub mod Pairs
pub mod Copies
pub mod Progress
pub mod Hosts
