pub mod State
pub mod Bounds
pub mod Streams
