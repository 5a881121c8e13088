pub mod Basics
pub mod Lexing
pub mod Parsing
pub mod Gathering
pub mod Texts
