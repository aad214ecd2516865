pub mod Charges
pub mod Vectors
