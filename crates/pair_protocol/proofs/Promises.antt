-- What the invariant promises of every world that actions, or rows of events, reach.
pub mod Outputs
pub mod Settling
pub mod Faithful
pub mod NodeStands
pub mod ReadsKept
pub mod Joining
pub mod OneMore
pub mod Runs
pub mod Lists
pub mod Growth
pub mod Scripts
