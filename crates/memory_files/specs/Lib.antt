pub mod Disk
pub mod Askings
