pub mod Directories
pub mod Packed
pub mod Small
