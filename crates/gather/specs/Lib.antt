pub mod Ends
pub mod Search
