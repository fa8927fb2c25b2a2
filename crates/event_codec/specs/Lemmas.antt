-- Lemmas that other crates stand on. Contracts cite none of them.
pub mod Uppers
