pub mod Grudging
