-- What "never stuck" means of processes: steps of hosts and of the outside, each of which waits only for those before it.
pub mod Exchanges
-- Which lists of them there are.
pub mod Laws
-- The Altair's.
pub mod Altairs
