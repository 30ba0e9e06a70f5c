pub mod Deciding
pub mod Walking
pub mod Entries
pub mod Found
pub mod Access
pub mod Pages
