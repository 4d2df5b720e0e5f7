pub mod Answering
pub mod Drawing
pub mod Printing
pub mod Running
pub mod Telling
pub mod Linting
pub mod Reasons
