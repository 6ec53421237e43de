pub mod Words
pub mod Plain
pub mod Right
