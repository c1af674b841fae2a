pub mod Numbers
pub mod Wishes
