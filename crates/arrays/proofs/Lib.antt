pub mod Indexed
pub mod Filling
pub mod Uses
