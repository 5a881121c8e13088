use Rattle.std.proofs.Common.{◌≡◌, take}
use Rattle.walrus_ty.specs.Records.{section_of}
use Rattle.walrus_types.specs.ReaderState.{IsReadInto}
use Rattle.walrus_types.proofs.section_reader.parse_types.Given as goal

abbrev pub invariant-loop-group : goal.invariant-loop-group
invariant-loop-group l = record {
  read : IsReadInto (section_of (take l.group-index l.groups)) l.reader.table l.reader.ids;
  keys : l.reader.table.types.keys ≡ l.fn.keys;
}
