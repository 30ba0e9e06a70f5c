pub mod Rows
pub mod Accept
