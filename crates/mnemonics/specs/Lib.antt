pub mod Mnemonics
pub mod Rows
