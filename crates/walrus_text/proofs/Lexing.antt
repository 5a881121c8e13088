-- Bytes as words and lines.
pub mod FirstWord
pub mod LineFeeds
pub mod Spacing
