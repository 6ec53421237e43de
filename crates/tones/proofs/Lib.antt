pub mod Table
pub mod Rule
