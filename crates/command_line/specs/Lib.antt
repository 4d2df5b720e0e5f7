pub mod Commands
pub mod Lists
pub mod Orders
