pub mod Numbers
pub mod Chains
pub mod Walks
pub mod Accesses
pub mod Tied
pub mod Sums
pub mod Spare
