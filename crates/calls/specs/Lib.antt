pub mod Chains
pub mod Rule1
pub mod Code
