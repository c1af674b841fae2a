pub mod Classes
pub mod Facts
pub mod Keys
pub mod Preferred
