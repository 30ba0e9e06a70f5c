pub mod Walks
pub mod Mutable
pub mod Assigned
pub mod Shared
pub mod Element
pub mod Calls
pub mod Locals
pub mod Numbered
