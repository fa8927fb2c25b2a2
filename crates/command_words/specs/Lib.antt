pub mod Limits
pub mod Table
pub mod Commands
