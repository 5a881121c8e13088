-- What reading makes of a section, group by group.
pub mod Groups
pub mod NextGroup
