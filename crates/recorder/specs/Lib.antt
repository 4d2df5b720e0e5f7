pub mod Recording
pub mod Laws
