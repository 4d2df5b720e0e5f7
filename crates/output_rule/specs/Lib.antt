pub mod Notes
pub mod Keys
pub mod Covering
pub mod Coverage
pub mod Laws
pub mod Limits
