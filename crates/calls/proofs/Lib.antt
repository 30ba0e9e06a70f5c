pub mod Memories
pub mod Rule1
pub mod Lists
