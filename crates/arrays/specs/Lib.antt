pub mod Tones
