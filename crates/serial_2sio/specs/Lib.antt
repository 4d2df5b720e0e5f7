pub mod Port
pub mod Acia
