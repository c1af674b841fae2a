pub mod Changes
pub mod Lawful
pub mod Places
