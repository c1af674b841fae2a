pub mod Alike
pub mod EveryRun
pub mod Steps
pub mod Trails
pub mod Worlds
