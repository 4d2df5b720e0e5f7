pub mod FirstAskers
