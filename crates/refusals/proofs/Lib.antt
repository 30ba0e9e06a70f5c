pub mod Below
pub mod Sizes
pub mod Bytes
pub mod Pages
