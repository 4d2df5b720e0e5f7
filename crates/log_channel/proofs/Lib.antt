mod Dropped
pub mod PacketLaws
pub mod BlockEntries
pub mod HeldEntries
pub mod SentEntries
