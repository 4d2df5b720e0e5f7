pub mod Fronts
pub mod Standing
pub mod Below
pub mod OneMove
pub mod Stretches
pub mod Runs
pub mod FollowedEntries
