pub mod Acting
pub mod Entering
pub mod StillOpen
pub mod OpenLists
pub mod Growing
pub mod Weighing
pub mod Pooling
pub mod EndedBy
pub mod Stepping
pub mod Looking
pub mod Separating
pub mod Closing
pub mod Visiting
mod Limiting
