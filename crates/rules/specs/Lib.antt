pub mod Rule1
pub mod Steps
pub mod Tables
pub mod Orders
pub mod Rule2
pub mod Code
