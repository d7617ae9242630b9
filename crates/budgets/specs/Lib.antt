pub mod Budgets
pub mod Pass
