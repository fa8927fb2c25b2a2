mod ByColumns
mod Leaving
mod Worked
mod Numerators
mod WholeSums
mod IntegerPrice
mod ShortProducts
