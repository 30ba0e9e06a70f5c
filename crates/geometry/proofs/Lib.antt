pub mod Geometry
pub mod Levels
