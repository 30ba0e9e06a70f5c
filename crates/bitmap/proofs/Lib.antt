pub mod Byte
pub mod Laws
pub mod Stores
