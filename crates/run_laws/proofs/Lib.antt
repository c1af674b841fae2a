pub mod Allowed
pub mod Ends
pub mod Lawful
pub mod Marks
pub mod Runs
pub mod Turns
