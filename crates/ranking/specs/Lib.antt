pub mod Draws
pub mod Lists
pub mod Orders
pub mod Precedence
