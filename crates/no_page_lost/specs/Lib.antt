pub mod Lost
pub mod Plain
pub mod Code
