pub mod Statement
pub mod Test
pub mod List
pub mod Answer
pub mod Bits
