use Rattle.std.proofs.Common.{◌≡◌, ◌++◌, ◌≤◌, length, drop}
use Rattle.walrus_ty.specs.Records.{section_of}
use Rattle.walrus_sections.specs.Section.{places_from}
use Rattle.walrus_normal_form_check.proofs.places.places_of.Given as goal

abbrev pub invariant-loop-group : goal.invariant-loop-group
invariant-loop-group l = record {
  places : l.places.items ++ places_from (length l.places.items) l.recs
      (section_of (drop l.group-index l.groups)) ≡ places_from 0 0 (section_of l.groups);
  few : l.recs ≤ length l.places.items;
}
