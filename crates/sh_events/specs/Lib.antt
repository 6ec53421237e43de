pub mod Ports
pub mod Event
