pub mod Text
pub mod Numbers
pub mod Names
pub mod Script
pub mod Spelled
pub mod Printed
