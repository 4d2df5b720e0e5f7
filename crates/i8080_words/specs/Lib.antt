pub mod Refusals
pub mod Limits
pub mod Arithmetic
pub mod Opcodes
pub mod Effects
pub mod Steps
