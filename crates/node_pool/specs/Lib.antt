pub mod Payloads
pub mod Free
pub mod Halting
pub mod Answers
pub mod Applied
pub mod Releases
pub mod Lemmas
