-- Lemmas that other crates, or the definitions themselves, stand on. Contracts cite none of them.
pub mod EachOne
pub mod RationalValues
pub mod Numbers
pub mod Prices
pub mod Below
pub mod Optimum
pub mod TrueAnswers
pub mod WholePoints
pub mod Closing
pub mod ReadOff
pub mod Kept
