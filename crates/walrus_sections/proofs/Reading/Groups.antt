-- The groups of a read section, with one more group at the end.
use Rattle.std.proofs.Common.{◌≡◌, ℕ, suc, ◌+◌, ◌<◌, List, [], ◌∷◌, ◌++◌, length, refl, sym, ap, ◌∙◌, arith, Bool, true, false, cond, ◌==◌, zero-add}
use Rattle.std.specs.List.{range_with_len}
use Rattle.walrus_ty.specs.Groups.{Section, Group, Single, Rec}
use Rattle.walrus_sections.specs.{Section.index_space, SlotMap.TypeGroup, SlotMap.read_groups}
use Rattle.walrus_sections.proofs.Sections.Splits.{size, length-places}

pub count_is : (s : Section) → (index_space s).count ≡ size s
count_is s = length-places 0 0 s

in_both :
    (b : Bool) (x : TypeGroup) (xs ys : List TypeGroup) →
    cond b (x ∷ (xs ++ ys)) (xs ++ ys) ≡ cond b (x ∷ xs) xs ++ ys
in_both true x xs ys = refl
in_both false x xs ys = refl

groups-append :
    (b : ℕ) (f : ℕ → ℕ) (gs : Section) (g : Group) →
    read_groups b f (gs ++ g ∷ []) ≡ read_groups b f gs ++ read_groups (size gs + b) f (g ∷ [])
groups-append b f [] g = ap (λ (c : ℕ). read_groups c f (g ∷ [])) (sym (zero-add b))
groups-append b f (Single d ∷ gs) g =
    let own : TypeGroup = record { ids = b ∷ []; is_explicit = false } in
    let c : size gs + suc b ≡ suc (size gs) + b = omega arith in
    ap (λ (rest : List TypeGroup). cond (f b == b) (own ∷ rest) rest) (groups-append (suc b) f gs g
    ∙ ap (λ (c : ℕ). read_groups (suc b) f gs ++ read_groups c f (g ∷ [])) c)
    ∙ in_both (f b == b) own (read_groups (suc b) f gs) (read_groups (suc (size gs) + b) f (g ∷ []))
groups-append b f (Rec ds ∷ gs) g =
    let c : size gs + (length ds + b) ≡ length ds + size gs + b = omega arith in
    ap (λ (rest : List TypeGroup). record { ids = range_with_len b (length ds); is_explicit = true } ∷ rest)
    (groups-append (length ds + b) f gs g ∙ ap (λ (c : ℕ).
    read_groups (length ds + b) f gs ++ read_groups c f (g ∷ [])) c)

groups_agree :
    (b : ℕ) (f h : ℕ → ℕ) (gs : Section) → ((i : ℕ) → i < size gs + b → f i ≡ h i) →
    read_groups b f gs ≡ read_groups b h gs
groups_agree b f h [] same = refl
groups_agree b f h (Single d ∷ gs) same =
    let rest : read_groups (suc b) f gs ≡ read_groups (suc b) h gs =
    groups_agree (suc b) f h gs (λ i w. same i (omega (arith, w))) in
    let own : TypeGroup = record { ids = b ∷ []; is_explicit = false } in
    ap (λ (x : ℕ). cond (x == b) (own ∷ read_groups (suc b) f gs) (read_groups (suc b) f gs))
    (same b (omega arith)) ∙ ap (λ (xs : List TypeGroup). cond (h b == b) (own ∷ xs) xs) rest
groups_agree b f h (Rec ds ∷ gs) same =
    ap (λ (xs : List TypeGroup). record { ids = range_with_len b (length ds); is_explicit = true } ∷ xs)
    (groups_agree (length ds + b) f h gs (λ i w. same i (omega (arith, w))))

-- the groups of the earlier indices are the same under a map that is the same there, and then come
-- those of the last group
pub groups_next :
    (f h : ℕ → ℕ) (s : Section) (g : Group) → ((i : ℕ) → i < (index_space s).count → h i ≡ f i) →
    read_groups 0 h (s ++ g ∷ []) ≡
    read_groups 0 f s ++ read_groups (index_space s).count h (g ∷ [])
groups_next f h s g same =
    let c : size s + 0 ≡ (index_space s).count = omega (arith, count_is s) in
    groups-append 0 h s g ∙ (ap (λ (xs : List TypeGroup). xs ++ read_groups (size s + 0) h (g ∷ []))
    (groups_agree 0 h f s (λ i w. same i (omega (arith, w, c))))
    ∙ ap (λ (c : ℕ). read_groups 0 f s ++ read_groups c h (g ∷ [])) c)
