pub mod Limits
pub mod Address
pub mod Sector
pub mod Command
pub mod Drive
pub mod Completion
pub mod Controller
pub mod Image
