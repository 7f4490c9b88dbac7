pub mod Checks
pub mod Questions
pub mod Stands
