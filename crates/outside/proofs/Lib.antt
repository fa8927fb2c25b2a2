pub mod Choosing
pub mod Parts
pub mod Stream
