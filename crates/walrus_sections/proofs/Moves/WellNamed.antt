-- A move leaves a well-named section well-named.
use Rattle.std.proofs.Common.{ℕ, ◌<◌, List, subst, arith}
use Rattle.walrus_sections.specs.Section.{Place, index_space, index_space_of_places, NamesBelowEnds, IsWellNamed}
use Rattle.walrus_ty.specs.Groups.{Section}
use Rattle.walrus_sections.specs.Moves.{DropsEmptyRec, DropsRepeat, SwapsNeighbours}
use Rattle.walrus_sections.proofs.{Sections.Rows.laid_out, Moves.Swapped.swapped_names, Moves.SwappedPlaces.swapped_by_index, Moves.Without.names_without, Moves.WithoutPlaces.drop_empty_rec-places, Moves.WithoutPlaces.without_by_index}

pub swapped_well_named :
    (s r : Section) (i : ℕ) → IsWellNamed s → SwapsNeighbours s r i → IsWellNamed r
swapped_well_named s r i w x = let sw = swapped_by_index s r i x in record {
  few = (let a = w.few in let b = sw.count in omega arith);
  below_ends = swapped_names (index_space s) (index_space r) i (laid_out s) w.below_ends sw;
}

pub without_well_named :
    (s r : Section) (i j : ℕ) → IsWellNamed s → DropsRepeat s r i j → IsWellNamed r
without_well_named s r i j w x = let wo = without_by_index s r i j x in record {
  few = (let a = w.few in let b = wo.count in omega arith);
  below_ends = names_without (index_space s) (index_space r) i j (laid_out s) w.below_ends wo;
}

pub unemptied_well_named : (s r : Section) → IsWellNamed s → DropsEmptyRec s r → IsWellNamed r
unemptied_well_named s r w x = let e = drop_empty_rec-places s r x in record {
  few = subst (λ (ps : List Place). (index_space_of_places ps).count < 4294967296) e w.few;
  below_ends = subst (λ (ps : List Place). NamesBelowEnds (index_space_of_places ps)) e w.below_ends;
}
