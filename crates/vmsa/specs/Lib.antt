pub mod Limits
pub mod Granules
pub mod Kinds
pub mod Attributes
pub mod Fields
pub mod Answers
pub mod Settings
pub mod Words
