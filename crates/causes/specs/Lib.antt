pub mod Causes
pub mod Closing
