pub mod Laws
pub mod Fits
pub mod Spans
