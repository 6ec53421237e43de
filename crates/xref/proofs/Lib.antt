pub mod Places
pub mod Words
pub mod Chains
pub mod Moves
pub mod Join
pub mod CallLaws
pub mod Entries
pub mod Theorems
