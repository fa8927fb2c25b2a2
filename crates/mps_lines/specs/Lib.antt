pub mod Decimals
pub mod Lines
pub mod Weights
pub mod Ends
pub mod Left
pub mod Infinities
pub mod Vast
pub mod Values
