pub mod AsReset
pub mod Leaves
