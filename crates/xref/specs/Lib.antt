pub mod Chain
pub mod Answer
pub mod Replace
pub mod Entries
