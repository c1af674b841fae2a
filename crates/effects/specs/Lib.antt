pub mod Accepted
pub mod Cards
pub mod Kept
pub mod Lists
