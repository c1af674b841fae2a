pub mod Picked
pub mod Started
