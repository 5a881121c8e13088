use Rattle.walrus_types.proofs.Tables.Calls.{every_table_is_sound}
use Rattle.walrus_types.proofs.table.laws.every_table_is_sound.Goals as goal

pub returns : goal.returns
returns c = every_table_is_sound
