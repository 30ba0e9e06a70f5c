pub mod Quick
pub mod Sparse
pub mod Rows
