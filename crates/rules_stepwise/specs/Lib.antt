pub mod Feeds
pub mod Promised
pub mod Code
pub mod Worked
