pub mod LocalEquality
pub mod LocalHashes
