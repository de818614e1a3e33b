pub mod Answered
pub mod Answers
pub mod Evaluating
pub mod Numbering
pub mod Operations
