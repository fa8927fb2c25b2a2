pub mod Props
pub mod Groups
pub mod Budgets
