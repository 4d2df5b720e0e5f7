pub mod Drafts
pub mod DraftLaws
pub mod DraftedBoard
pub mod Room
pub mod Polling
