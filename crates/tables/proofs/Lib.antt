pub mod Choices
pub mod KeyLaws
pub mod First
pub mod Slots
pub mod Built
pub mod Passed
pub mod Noting
