pub mod Journals
pub mod Offering
pub mod Applying
pub mod Begun
pub mod Several
