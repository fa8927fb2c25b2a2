pub mod Drawing
pub mod Numbered
pub mod Pieces
pub mod Worked
