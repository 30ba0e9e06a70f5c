pub mod Readings
pub mod Code
pub mod RulesC
pub mod Spare
