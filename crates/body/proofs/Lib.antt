pub mod Laws
pub mod Fine
