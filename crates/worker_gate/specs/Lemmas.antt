-- Lemmas that other crates, or the definitions themselves, stand on. Contracts cite none of them.
pub mod Lists
pub mod Holding
pub mod Findings
pub mod Staying
