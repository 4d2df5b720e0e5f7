pub mod Decoding
pub mod Filling
pub mod Mistakes
pub mod Quoting
pub mod Adding
pub mod Settling
pub mod Sectors
