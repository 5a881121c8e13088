-- Lines as a section: with which of them no section begins, and what is known while bytes come in.
pub mod Prefixes
pub mod Bytes
