-- What private functions promise one another on the way to a public clause. No public clause cites
-- these modules.
pub mod SeqLends
