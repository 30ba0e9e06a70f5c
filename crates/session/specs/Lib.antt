pub mod Model
pub mod View
