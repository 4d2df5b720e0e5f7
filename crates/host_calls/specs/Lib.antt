pub mod Made
pub mod Calls
pub mod Follows
