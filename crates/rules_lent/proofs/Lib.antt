pub mod Chains
pub mod Tied
