pub mod Sizes
pub mod Order
pub mod Kept
pub mod Least
