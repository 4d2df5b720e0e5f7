pub mod Logs
pub mod Log
pub mod Buffer
pub mod Laws
pub mod Limits
