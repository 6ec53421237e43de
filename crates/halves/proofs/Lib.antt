pub mod Stays
pub mod Released
pub mod Halves
