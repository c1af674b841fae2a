pub mod Boards
pub mod Bytes
pub mod Outcomes
pub mod Texts
