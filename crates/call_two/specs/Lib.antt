pub mod Script
pub mod RunTwo
pub mod Statement
