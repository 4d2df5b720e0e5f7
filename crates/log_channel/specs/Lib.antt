pub mod Packet
pub mod Block
pub mod Channel
pub mod Receiver
pub mod Laws
