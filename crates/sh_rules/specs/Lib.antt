pub mod Rules
pub mod Judge
pub mod Spans
