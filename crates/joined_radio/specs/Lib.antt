pub mod Joins
pub mod Laws
pub mod Small
