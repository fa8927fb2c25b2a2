-- Lemmas that other crates, or the definitions themselves, stand on. Contracts cite none of them.
pub mod Lowest
pub mod Gcd
pub mod Integers
pub mod Rational
pub mod Whole
pub mod Ring
pub mod Order
pub mod Bounds
pub mod Checked
