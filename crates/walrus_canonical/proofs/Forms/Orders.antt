-- The order of sections is total, and sections with plain groups that it does not tell apart are
-- one section.
use Rattle.std.proofs.Common.{◌≡◌, ◌<◌, List, [], ◌∷◌, length, arith, map, refl, ap, sym, ◌∙◌}
use Rattle.std.specs.declared.cmp.Ordering.{Ordering}
use Rattle.std.specs.declared.cmp.Ordering.TheVariants.{Less, Equal, Greater}
use Rattle.std.specs.Ordering.{ordering_reverse}
use Rattle.std.specs.Cmp.{IsTotalOrder}
use Rattle.std.specs.Cmp.Lexicographic.{slice_cmp}
use Rattle.std.proofs.lemmas.Cmp.{on_total, lists_total, tied_itself}
use Rattle.walrus_ty.specs.Definition.{Definition, definition_cmp}
use Rattle.walrus_ty.specs.Groups.{Group, Single, Rec, Section}
use Rattle.walrus_ty.proofs.Names.Definitions.{definitions_total, definition_exact}
use Rattle.walrus_ty.proofs.Spelling.Tokens.{then_equal}
use Rattle.walrus_canonical.specs.Greedy.{plain_group}
use Rattle.walrus_canonical.specs.Listing.{HasPlainGroups, group_definitions, group_cmp, section_cmp}

pub groups_total : IsTotalOrder group_cmp
groups_total = on_total group_definitions (lists_total definitions_total)

pub sections_total : IsTotalOrder section_cmp
sections_total = lists_total groups_total

-- no list of definitions is less than itself
pub not_itself : (ds : List Definition) → slice_cmp definition_cmp ds ds ≡ Less → ⊥
not_itself ds e = let z = sym e ∙ tied_itself (lists_total definitions_total) ds in cc

pub definitions_exact : (ds es : List Definition) → slice_cmp definition_cmp ds es ≡ Equal → ds ≡ es
definitions_exact [] [] h = refl
definitions_exact [] (e ∷ es) h = absurd cc
definitions_exact (d ∷ ds) [] h = absurd cc
definitions_exact (d ∷ ds) (e ∷ es) h =
    let parts = then_equal (definition_cmp d e) (slice_cmp definition_cmp ds es) h in
    let first : d ≡ e = definition_exact d e parts.0 in
    let rest : ds ≡ es = definitions_exact ds es parts.1 in cc

groups_exact :
    (gs hs : Section) → section_cmp gs hs ≡ Equal →
    map group_definitions gs ≡ map group_definitions hs
groups_exact [] [] h = refl
groups_exact [] (e ∷ es) h = absurd cc
groups_exact (d ∷ ds) [] h = absurd cc
groups_exact (d ∷ ds) (e ∷ es) h =
    let parts = then_equal (group_cmp d e) (section_cmp ds es) h in
    let first : group_definitions d ≡ group_definitions e =
    definitions_exact (group_definitions d) (group_definitions e) parts.0 in
    let rest : map group_definitions ds ≡ map group_definitions es = groups_exact ds es parts.1 in cc

plain_first :
    (g : Group) (gs : Section) → HasPlainGroups (g ∷ gs) → plain_group (group_definitions g) ≡ g
plain_first (Single d) gs h = refl
plain_first (Rec []) gs h = absurd h
plain_first (Rec (d ∷ [])) gs h = absurd h
plain_first (Rec (d ∷ e ∷ ds)) gs h = refl

plain_again : (gs : Section) → HasPlainGroups gs → map plain_group (map group_definitions gs) ≡ gs
plain_again [] h = refl
plain_again (Single d ∷ gs) h = ap (λ (hs : Section). Single d ∷ hs) (plain_again gs h)
plain_again (Rec [] ∷ gs) h = absurd h
plain_again (Rec (d ∷ []) ∷ gs) h = absurd h
plain_again (Rec (d ∷ e ∷ ds) ∷ gs) h = ap (λ (hs : Section). Rec (d ∷ e ∷ ds) ∷ hs) (plain_again gs h)

-- plain groups of equal definitions are one group
pub plain_once :
    (g h : Group) (gs hs : Section) → HasPlainGroups (g ∷ gs) → HasPlainGroups (h ∷ hs) →
    group_cmp g h ≡ Equal → g ≡ h
plain_once g h gs hs p q e =
    sym (plain_first g gs p) ∙ (ap plain_group
    (definitions_exact (group_definitions g) (group_definitions h) e) ∙ plain_first h hs q)

pub plain_definitions : (ds : List Definition) → group_definitions (plain_group ds) ≡ ds
plain_definitions [] = refl
plain_definitions (d ∷ []) = refl
plain_definitions (d ∷ e ∷ ds) = refl

pub plain_if_filled : (ds : List Definition) → 0 < length ds → HasPlainGroups (plain_group ds ∷ [])
plain_if_filled [] h = absurd (omega (arith, h))
plain_if_filled (d ∷ []) h = tt
plain_if_filled (d ∷ e ∷ ds) h = tt

pub section_exact :
    (gs hs : Section) → HasPlainGroups gs → HasPlainGroups hs → section_cmp gs hs ≡ Equal → gs ≡ hs
section_exact gs hs p q h = sym (plain_again gs p) ∙ (ap (map plain_group) (groups_exact gs hs h)
    ∙ plain_again hs q)

neither : (o p : Ordering) → o ≡ ordering_reverse p → (o ≡ Less → ⊥) → (p ≡ Less → ⊥) → o ≡ Equal
neither Less p e h k = absurd (h refl)
neither Equal p e h k = refl
neither Greater Less e h k = absurd (k refl)
neither Greater Equal e h k = absurd cc
neither Greater Greater e h k = absurd cc

-- two of which neither is less are one
pub section_once :
    (gs hs : Section) → HasPlainGroups gs → HasPlainGroups hs → (section_cmp gs hs ≡ Less → ⊥) →
    (section_cmp hs gs ≡ Less → ⊥) → gs ≡ hs
section_once gs hs p q h k = section_exact gs hs p q
    (neither (section_cmp gs hs) (section_cmp hs gs) (sections_total.antisymm gs hs) h k)
