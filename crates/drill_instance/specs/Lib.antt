pub mod Draws
pub mod Knapsacks
pub mod Texts
