pub mod Stepwise
