pub mod Multipliers
pub mod Candidate
pub mod Separation
pub mod Laws
