pub mod Answers
pub mod ShownIn
pub mod Sides
pub mod Starts
