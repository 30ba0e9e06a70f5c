pub mod Tests
pub mod Laws
pub mod Numbers
pub mod BitLaws
pub mod Lists
