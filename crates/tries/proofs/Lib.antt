pub mod Cells
pub mod Turning
pub mod Words
