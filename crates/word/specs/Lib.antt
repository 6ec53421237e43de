pub mod Codes
pub mod Word
