pub mod Two
pub mod Alone
