pub mod Key
pub mod Tables
pub mod Pass
