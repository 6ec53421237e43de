pub mod Request
pub mod Timer0
pub mod Ticked
