pub mod Periods
