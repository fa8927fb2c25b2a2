pub mod Sequence
pub mod EachPart
pub mod Feeding
pub mod Words
pub mod Splitting
pub mod ListedPoints
pub mod Sections
pub mod Worked
