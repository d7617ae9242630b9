pub mod Tone
pub mod Tries
pub mod Line
pub mod Arrays
pub mod Cases
