pub mod Askings
