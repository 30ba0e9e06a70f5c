pub mod Events
pub mod Rule3
pub mod Lawful
pub mod Code
