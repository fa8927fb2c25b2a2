pub mod Spelling
pub mod Printed
pub mod Unique
pub mod Lemmas
