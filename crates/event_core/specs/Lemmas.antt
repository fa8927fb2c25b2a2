-- Lemmas that other crates, or the definitions themselves, stand on. Contracts cite none of them.
pub mod Passing
pub mod Running
pub mod Holds
pub mod Ended
pub mod Frames
pub mod Points
pub mod Boxes
pub mod Reasons
pub mod Sounding
pub mod Kept
pub mod Counting
