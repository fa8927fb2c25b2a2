-- Lemmas that other crates, or the definitions themselves, stand on. Contracts cite none of them.
pub mod OptionChains
pub mod Held
pub mod Columns
pub mod Combining
pub mod Numbering
pub mod Rounded
pub mod Price
pub mod Deciding
pub mod Exact
pub mod Bounding
pub mod Cutting
pub mod Staying
pub mod OneDenominator
