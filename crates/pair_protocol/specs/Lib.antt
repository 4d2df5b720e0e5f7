-- To believe the promise, read these: what the machine is, what a world is, what is settled, what a faithful world has.
pub mod Lawful
pub mod OnDisk
pub mod Waiting
pub mod Node
pub mod World
pub mod Settled
pub mod ReadsKept
pub mod Faithful
pub mod Grows
-- What each event does: actions of single actors, events, their refusals, their rows.
pub mod Copying
pub mod Change
pub mod Reply
pub mod Refusals
pub mod Effects
pub mod Rows
pub mod Row
pub mod Survival
-- For the layers above.
pub mod NodeStands
pub mod SharedDevices
pub mod Joining
pub mod Traces
pub mod Laws
pub mod Needing
pub mod Examples
