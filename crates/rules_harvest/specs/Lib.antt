pub mod Leaves
pub mod Walks
pub mod Harvest
pub mod Code
pub mod Worked
