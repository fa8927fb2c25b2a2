-- Lemmas that other crates stand on. Contracts cite none of them.
pub mod Histories
pub mod Standing
pub mod OneModel
