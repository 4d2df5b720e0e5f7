-- What travels between processes, and what each of them does.
pub mod Frame
pub mod Host
pub mod Ran
pub mod Outside
-- All of them together, and the world of the protocol that they show.
pub mod Fleet
pub mod Shows
pub mod Kept
pub mod Survival
pub mod Laws
pub mod Examples
pub mod Relying
