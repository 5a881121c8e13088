-- Lemmas on tables that gain an explicit group.
use Rattle.std.proofs.Common.{◌≡◌, ℕ, zero, suc, ◌+◌, ◌-◌, ◌<◌, List, [], ◌∷◌, ◌++◌, length, replicate, refl, sym, ap, subst, ◌∙◌, arith, Some, true, inl, Result, Err}
use Rattle.std.specs.List.{slice_index, range_with_len}
use Rattle.std.proofs.lemmas.List.{get_or_append_left, get_or-append_right}
use Rattle.std.proofs.Common.{length-append}
use Rattle.walrus_types.specs.declared.table.rec_group.AddRecGroupError.{AddRecGroupError, TheVariants.Count}
use Rattle.walrus_types.specs.{Table.Table, Table.Member, Table.member_types, Table.AddsGroup, Table.next_id, TypesById.known_id, Steps.TableIndex.IsIndexed}
use Rattle.walrus_types.proofs.Tables.Places.{Grows, Extends, table_grown}

range_push_suc :
    (first count : ℕ) → range_with_len first count ++ (first + count) ∷ [] ≡
    range_with_len first (suc count)
range_push_suc first zero = let e : first + 0 ≡ first = omega arith in ap (λ (n : ℕ). n ∷ []) e
range_push_suc first (suc count) =
    let e : first + suc count ≡ first + 1 + count = omega arith in
    ap (λ (ns : List ℕ). first ∷ ns) (ap (λ (n : ℕ). range_with_len (first + 1) count ++ n ∷ []) e
    ∙ range_push_suc (first + 1) count)

pub range_push :
    (first count next : ℕ) → next ≡ count + 1 →
    range_with_len first count ++ (first + count) ∷ [] ≡ range_with_len first next
range_push first count next e = let f : suc count ≡ next = omega (arith, e) in range_push_suc first count
    ∙ ap (range_with_len first) f

replicate_push_suc :
    {A : Type 0} (count : ℕ) (x : A) → replicate count x ++ x ∷ [] ≡ replicate (suc count) x
replicate_push_suc zero x = refl
replicate_push_suc (suc count) x = ap (λ xs. x ∷ xs) (replicate_push_suc count x)

pub replicate_push :
    {A : Type 0} (count next : ℕ) (x : A) → next ≡ count + 1 →
    replicate count x ++ x ∷ [] ≡ replicate next x
replicate_push count next x e = let f : suc count ≡ next = omega (arith, e) in replicate_push_suc count x
    ∙ ap (λ (n : ℕ). replicate n x) f

length-replicate : {A : Type 0} (count : ℕ) (x : A) → length (replicate count x) ≡ count
length-replicate zero x = refl
length-replicate (suc count) x = ap suc (length-replicate count x)

get_or-replicate : (count m i : ℕ) → i < count → slice_index (replicate count m) i ≡ m
get_or-replicate zero m i h = absurd (omega (arith, h))
get_or-replicate (suc count) m zero h = refl
get_or-replicate (suc count) m (suc i) h = get_or-replicate count m i (omega (arith, h))

extends_all : (go : List ℕ) (count m : ℕ) → Extends go (go ++ replicate count m) count m
extends_all go count m = record {
  many = length-append go (replicate count m) ∙ ap (λ n. length go + n) (length-replicate count m);
  old = λ i below. get_or_append_left go (replicate count m) 0 i below;
  last = λ i low high. get_or-append_right go (replicate count m) (length go) i 0 refl low
      ∙ get_or-replicate count m (i - length go) (omega (arith, low, high));
}

pub length-placed :
    (id : ℕ) (members : List Member) → length (member_types id members) ≡ length members
length-placed id [] = refl
length-placed id (m ∷ members) = ap suc (length-placed (id + 1) members)

group_grows : (t new : Table) (members : List Member) → AddsGroup t new members →
    Grows t new (member_types (next_id t) members)
    (record { types = range_with_len (next_id t) (length members); is_explicit = true })
group_grows t new members adds = record {
  slots = ap (λ s. s.slots) adds.types;
  groups = adds.groups;
  members = ap (range_with_len (next_id t)) (sym (length-placed (next_id t) members));
  single = λ h. (let c : ⊥ = cc in absurd c);
  map = λ q id h. inl (subst (λ s. known_id s q ≡ Some id) adds.types h);
}

pub table_grouped :
    (t new : Table) (go : List ℕ) (members : List Member) → IsIndexed t go →
    AddsGroup t new members → IsIndexed new (go ++ replicate (length members) (length t.groups))
table_grouped t new go members is adds =
    let count : length (member_types (next_id t) members) ≡ length members =
    length-placed (next_id t) members in
    table_grown t new go (go ++ replicate (length members) (length t.groups))
    (member_types (next_id t) members) (record {
      types = range_with_len (next_id t) (length members);
      is_explicit = true;
    }) is (group_grows t new members adds)
    (subst (λ (n : ℕ). Extends go (go ++ replicate (length members) (length t.groups)) n
    (length t.groups)) (sym count) (extends_all go (length members) (length t.groups)))

pub count_parts : {X : Type 0} (a b c d : ℕ) →
    ◌≡◌ {A = Result X AddRecGroupError} (Err (Count a b)) (Err (Count c d)) → (a ≡ c) × (b ≡ d)
count_parts a b c d h = (cc, cc)
