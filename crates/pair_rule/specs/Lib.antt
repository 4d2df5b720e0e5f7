-- What the seats know, which boxes they share, and the steps that lead there.
pub mod Knowledge
pub mod Boxes
pub mod Histories
-- To believe the promise, read these too: the world that is shown, which steps are events, what the threads promise.
pub mod Shown
pub mod Law
pub mod Steps
pub mod Threads
-- For who calls the seats: what holds of the table between any two atomic steps, what each step tells, what a seat holds.
pub mod Rules
pub mod Kinds
pub mod Seats
