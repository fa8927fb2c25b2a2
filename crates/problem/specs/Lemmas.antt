-- Lemmas that other crates, or the definitions themselves, stand on. Contracts cite none of them.
pub mod Linear
pub mod Modest
pub mod Limited
pub mod Rising
pub mod Directions
