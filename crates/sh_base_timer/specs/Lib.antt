pub mod BaseTimer
