pub mod Living
pub mod Threads
