pub mod Turns
pub mod TurnedQuiet
