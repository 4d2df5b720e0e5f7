pub mod Booting
pub mod Queries
pub mod Alike
pub mod Comparing
pub mod Disks
pub mod Sectors
pub mod Verdicts
pub mod Telling
