pub mod Airs
pub mod Laws
pub mod Skies
