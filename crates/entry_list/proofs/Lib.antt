pub mod Matches
pub mod Wholes
