-- Lemmas that other crates stand on. Contracts cite none of them.
pub mod Bounds
pub mod Inside
pub mod Events
pub mod Rooms
