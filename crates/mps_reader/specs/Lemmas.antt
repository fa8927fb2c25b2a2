-- Lemmas that other crates, or the definitions themselves, stand on. Contracts cite none of them.
pub mod Laws
pub mod Placing
pub mod Limits
pub mod Modest
pub mod Named
pub mod LinesWithinLimits
pub mod FieldNames
