-- Equal roots need equal types.
use Rattle.std.proofs.Common.{ℕ, List, Contains}
use Rattle.walrus_ty.specs.Groups.{Section}
use Rattle.walrus_sections.specs.Section.{index_space}
use Rattle.walrus_canonical.specs.EqualTypes.{AreEqual}
use Rattle.walrus_canonical.specs.Listing.{at_root, by_group, by_name, AreAmong}
use Rattle.walrus_canonical.proofs.Equality.Definitions.{names_what_stands}
use Rattle.walrus_canonical.proofs.Equality.EqualTypes.{groups_of, equal_mates, equal_at_once, named_there}

pub among_by_roots :
    (s t : Section) (roots others : List ℕ) →
    ((root : ℕ) → Contains roots root → (other : ℕ) × Contains others other
    × AreEqual (index_space s) (index_space t) root other) → AreAmong s roots t others
among_by_roots s t roots others h _ (at_root i c) = let j = h i c in (j.0, at_root j.0 j.1, j.2)
among_by_roots s t roots others h _ (by_group mate i n g) =
    let S = index_space s in
    let T = index_space t in
    let j = among_by_roots s t roots others h mate n in
    let l = (groups_of S T mate j.0 j.2).first_places i g.0 g.1 in
    (l.0, by_group j.0 l.0 j.1 (g.0, l.1), equal_mates S T mate j.0 g.0 i l.0 j.2 g.1 l.1)
among_by_roots s t roots others h _ (by_name user i n names) =
    let S = index_space s in
    let T = index_space t in
    let j = among_by_roots s t roots others h user n in
    let g = groups_of S T user j.0 j.2 in
    let y = named_there S T user j.0 user i g (g.own_place, g.first_own) names in (
      y.0,
      by_name y.1.l y.0 (by_group j.0 y.1.l j.1 (y.1.place, y.1.second_member))
          (names_what_stands (T.definition y.1.l) y.1.position y.0 y.1.second_name),
      equal_at_once S T user j.0 i y.0 j.2 y.1,
    )
