-- Lemmas that other crates, or the definitions themselves, stand on. Contracts cite none of them.
pub mod OnDisk
pub mod Passing
pub mod Replay
pub mod SeenIsImage
