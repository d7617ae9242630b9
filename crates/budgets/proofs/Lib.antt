pub mod Laws
pub mod Pass
pub mod Lines
pub mod Outcomes
