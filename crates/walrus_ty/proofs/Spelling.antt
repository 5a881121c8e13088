-- Definitions spelled as lists of tokens, by which they are renamed and compared.
pub mod Tokens
pub mod Spelled
pub mod Injective
