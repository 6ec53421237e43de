pub mod Scripts
pub mod Judgements
pub mod Alone
