pub mod Runs
pub mod ByItself
pub mod Parts
pub mod Onward
pub mod Cars
