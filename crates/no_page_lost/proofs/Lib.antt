pub mod Marks
pub mod Held
pub mod Harvests
pub mod Plain
pub mod Watch
pub mod Tied
