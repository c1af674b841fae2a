pub mod Apart
pub mod Stretches
