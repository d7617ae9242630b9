pub mod Parts
pub mod Length
pub mod Written
pub mod Operands
pub mod Tones
pub mod RoundTrip
pub mod Tidied
pub mod Examples
