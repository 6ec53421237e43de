pub mod Keeps
pub mod Stuck
