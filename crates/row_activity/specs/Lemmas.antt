-- Lemmas that other crates, or the definitions themselves, stand on. Contracts cite none of them.
pub mod Extremes
pub mod Laws
pub mod Cuts
