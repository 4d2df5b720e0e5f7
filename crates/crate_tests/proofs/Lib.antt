pub mod Held
pub mod LoggedRun
