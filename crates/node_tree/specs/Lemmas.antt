-- Lemmas that other crates, or the definitions themselves, stand on. Contracts cite none of them.
pub mod Paths
pub mod Boxes
pub mod Insides
pub mod Splitting
