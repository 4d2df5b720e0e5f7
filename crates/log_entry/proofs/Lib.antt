pub mod ReadingLaws
pub mod NumberLaws
pub mod GenerationLaws
pub mod EntryLaws
pub mod TraceEntries
