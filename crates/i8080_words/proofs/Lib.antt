pub mod Bits
pub mod Accesses
