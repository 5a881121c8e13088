use Rattle.walrus_ty.proofs.laws.contents_tell_records.Goals as goal
use Rattle.walrus_ty.proofs.Equality.Contents.{same_entry, same_section}

pub returns-clause-entry : goal.returns-clause-entry
returns-clause-entry c = same_entry

pub returns-clause-section : goal.returns-clause-section
returns-clause-section c = same_section
