pub mod Held
pub mod File
