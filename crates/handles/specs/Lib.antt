pub mod Slots
pub mod Names
pub mod Lives
pub mod Starts
