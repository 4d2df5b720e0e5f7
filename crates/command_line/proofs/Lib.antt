pub mod Orders
pub mod Pieces
pub mod Table
