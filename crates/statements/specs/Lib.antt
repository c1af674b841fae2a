pub mod Arguments
pub mod Statements
