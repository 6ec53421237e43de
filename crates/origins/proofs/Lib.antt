pub mod Leaves
pub mod Event
pub mod Run
pub mod Calls
pub mod Host
pub mod Cars
