pub mod QuietSteps
pub mod WrittenPages
pub mod Booted
pub mod Moves
