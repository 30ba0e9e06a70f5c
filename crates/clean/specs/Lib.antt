pub mod Clean
pub mod Cleaning
