-- Lemmas that other crates, or the definitions themselves, stand on. Contracts cite none of them.
pub mod RowAlgebra
pub mod Blocked
pub mod RatioTest
pub mod Places
pub mod Pivoted
pub mod PivotKeeps
pub mod Signs
pub mod Dual
pub mod RunKeeps
pub mod Started
pub mod Programs
pub mod StartFits
pub mod Sums
pub mod Leaning
pub mod Balanced
pub mod Refuting
