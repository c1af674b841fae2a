pub mod Histories
pub mod Laws
pub mod Rules
pub mod Worlds
