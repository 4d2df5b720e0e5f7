pub mod Arriving
pub mod Greatest
pub mod RecordsBySector
pub mod Booting
pub mod Failures
