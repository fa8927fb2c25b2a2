-- Lemmas that other crates, or the definitions themselves, stand on. Contracts cite none of them.
pub mod LongerLines
pub mod Negated
pub mod Closings
pub mod Filling
pub mod TreeLemmas
pub mod Setting
pub mod Placing
pub mod BoundLines
pub mod Finished
