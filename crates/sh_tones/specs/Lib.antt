pub mod Tone
pub mod Wave
