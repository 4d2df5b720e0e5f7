pub mod Entries
pub mod Numbers
pub mod Spelling
pub mod Laws
pub mod Standing
