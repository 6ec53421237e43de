pub mod Laws
pub mod Parts
pub mod Keeps
pub mod Stretches
pub mod Singles
