pub mod Lemmas
pub mod Lawful
