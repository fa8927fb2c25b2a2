pub mod Steps
pub mod IntegerSteps
pub mod Rows
pub mod First
