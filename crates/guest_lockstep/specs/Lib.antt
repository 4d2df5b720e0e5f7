pub mod Machine
pub mod Lockstep
pub mod Recorded
pub mod Outstanding
pub mod Running
pub mod Pages
pub mod Reach
