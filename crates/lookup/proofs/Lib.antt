pub mod Levels
pub mod Decoding
pub mod Reach
pub mod Packing
pub mod Readers
pub mod Page
pub mod Sums
pub mod Index
