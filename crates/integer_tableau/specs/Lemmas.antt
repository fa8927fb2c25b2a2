-- Lemmas that other crates stand on. Contracts cite none of them.
pub mod MapFrom
pub mod Scales
pub mod Runs
pub mod Fractions
pub mod Comparing
pub mod NotCramped
pub mod RankedColumns
