-- What "never stuck" means: events that are all carried out lead on.
pub mod Leads
pub mod Following
-- A node by itself: it goes live, completes what is outstanding, reads the disk, and goes on.
pub mod Takeover
pub mod Completion
pub mod Recovery
pub mod Reading
-- Two nodes: a log that is caught up with, a pair at rest, and a pair that begins.
pub mod CatchingUp
pub mod Settling
pub mod Renewal
pub mod Going
-- The form of all these laws.
pub mod Always
