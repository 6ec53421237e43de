pub mod Ticks
pub mod Quiet
