pub mod Text
pub mod Living
pub mod Altairs
