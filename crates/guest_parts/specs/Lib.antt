pub mod Guest
pub mod Board
pub mod Parts
