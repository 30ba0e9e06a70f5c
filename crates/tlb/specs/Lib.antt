pub mod Replies
pub mod Walker
pub mod Ours
pub mod Entries
