pub mod Files
pub mod Images
pub mod Small
