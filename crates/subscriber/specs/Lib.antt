pub mod Codes
pub mod Identities
pub mod Needed
pub mod Subscribers
