pub mod Answers
pub mod Building
pub mod Candidates
pub mod Numbers
