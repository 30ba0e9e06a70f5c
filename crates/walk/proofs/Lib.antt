pub mod Parts
pub mod Ends
pub mod Settled
pub mod Promises
