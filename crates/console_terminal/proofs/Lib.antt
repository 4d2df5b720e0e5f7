pub mod Bytes
pub mod Hearing
pub mod Pieces
pub mod Redraws
pub mod Seen
pub mod Joined
pub mod Same
