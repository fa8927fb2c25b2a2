mod Worked
mod Reference
mod Rising
mod Steps
mod Separating
mod Rounding
mod Candidates
mod Columns
