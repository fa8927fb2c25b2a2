-- Lemmas that other crates, or the definitions themselves, stand on. Contracts cite none of them.
pub mod Signs
pub mod Held
pub mod Soundness
pub mod Decider
