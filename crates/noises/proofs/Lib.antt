pub mod Places
pub mod Chosen
pub mod Dearer
pub mod Guarded
