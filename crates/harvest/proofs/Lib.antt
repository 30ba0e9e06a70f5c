pub mod Place
pub mod Link
pub mod Pool
pub mod Laws
