pub mod Leaves
pub mod Words
