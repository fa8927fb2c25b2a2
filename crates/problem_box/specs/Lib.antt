pub mod Boxes
pub mod Changes
pub mod PointCount
pub mod Lemmas
