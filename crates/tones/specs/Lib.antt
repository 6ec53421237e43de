pub mod Tones
pub mod Rule
