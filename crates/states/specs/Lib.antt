pub mod Checks
pub mod Standings
pub mod States
