pub mod Answering
pub mod Lines
pub mod Starting
pub mod Telling
pub mod Drawing
pub mod FirstBad
pub mod Linting
pub mod Reasons
