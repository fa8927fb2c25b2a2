pub mod Activity
pub mod Fitting
pub mod IntegerSums
pub mod Extremes
pub mod Verdicts
pub mod Meaning
pub mod Lemmas
