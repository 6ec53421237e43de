pub mod Fine
pub mod Puts
pub mod Header
pub mod RoundTrip
pub mod Damage
