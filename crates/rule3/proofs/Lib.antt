pub mod Coherence
pub mod Agreement
pub mod Memory
pub mod Final
