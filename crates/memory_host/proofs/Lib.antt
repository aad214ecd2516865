mod Slots
mod Changes
mod Files
mod Streams
mod Directory
mod Starts
mod Kept
