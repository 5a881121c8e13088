use Rattle.std.proofs.Common.{◌≡◌, ◌++◌, ◌+◌, List, map, drop, length}
use Rattle.walrus_ty.specs.Records.{entry_definition}
use Rattle.walrus_sections.specs.Section.{Place, rec_places}
use Rattle.walrus_normal_form_check.proofs.places.add_members.Given as goal

abbrev pub invariant-loop-at : goal.invariant-loop-at
invariant-loop-at l = record {
  places : (rest : List Place) → l.places.items ++ rec_places (map entry_definition (drop l.at l.entries))
      l.end l.rec l.at rest ≡ l.fn.places.items ++ rec_places (map entry_definition l.entries) l.end l.rec 0
      rest;
  many : length l.places.items ≡ length l.fn.places.items + l.at;
}
