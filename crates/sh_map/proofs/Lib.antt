pub mod Laws
pub mod Below
pub mod Within
