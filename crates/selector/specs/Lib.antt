pub mod Runs
pub mod Views
