pub mod JoinedPages
pub mod NewMemory
pub mod WrappedAround
