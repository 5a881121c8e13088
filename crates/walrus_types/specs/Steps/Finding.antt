-- What a type of the table is looked for by.
use Rattle.walrus_ty.specs.Types.{ModuleType}
use Rattle.walrus_types.specs.Table.{IsNamed, IsPlainFunction, IsEntryType}
use Rattle.walrus_types.specs.declared.table.find.Wanted.{Wanted}
use Rattle.walrus_types.specs.declared.table.find.Wanted.TheVariants as wanted

abbrev pub IsWanted : Wanted → ModuleType → Type 0
IsWanted (wanted.Name name) ty = IsNamed name.now ty
IsWanted (wanted.Function params results) ty = IsPlainFunction params.now results.now ty
IsWanted (wanted.Entry results) ty = IsEntryType results.now ty
