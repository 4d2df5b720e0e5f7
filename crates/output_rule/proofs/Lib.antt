pub mod KeysBetween
pub mod Names
pub mod NoteLists
pub mod Standing
pub mod Covered
pub mod Told
pub mod FewNotes
