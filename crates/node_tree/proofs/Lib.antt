pub mod Bounds
pub mod Climbing
pub mod Meets
pub mod Replacing
pub mod Walking
