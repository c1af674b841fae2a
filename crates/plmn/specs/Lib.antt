pub mod Areas
pub mod Codes
pub mod Technologies
pub mod Equality
