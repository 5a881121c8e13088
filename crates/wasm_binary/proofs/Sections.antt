-- What the reading of a section says of its bytes.
use Rattle.std.proofs.Common.{◌≡◌, ℕ, ◌+◌, ◌-◌, ◌<◌, ◌≤◌, nat_eq, true, List, [], ◌∷◌, ◌++◌, length, take, None, Result, Ok, Err, refl, sym, ap, subst, ◌∙◌, append_assoc, append-nil, drop, take-append-drop, inl, inr, arith, ne_eqb}
use Rattle.std.proofs.lemmas.Bool.{cases_lt}
use Rattle.std.proofs.lemmas.List.{take-take}
use Rattle.std.specs.Prelude.{IfSome}
use Rattle.walrus_ty.specs.declared.records.GroupAt.{GroupAt}
use Rattle.wasm_binary.specs.declared.error.DecodeError.{DecodeError}
use Rattle.wasm_binary.specs.declared.error.Expected.{Expected}
use Rattle.wasm_binary.specs.declared.error.Expected.TheVariants as expected
use Rattle.wasm_binary.specs.declared.error.Reason.{Reason}
use Rattle.wasm_binary.specs.declared.error.Reason.TheVariants as reason
use Rattle.wasm_binary.specs.declared.error.NotHeld.{NotHeld}
use Rattle.wasm_binary.specs.declared.error.NotHeld.TheVariants as held
use Rattle.wasm_binary.specs.declared.error.Fault.{Fault}
use Rattle.wasm_binary.specs.declared.error.RawReadError.{RawReadError}
use Rattle.wasm_binary.specs.declared.error.RawReadError.TheVariants as errors
use Rattle.walrus_ty.specs.declared.ty.value.AbstractHeapType.TheVariants as abstract
use Rattle.walrus_ty.specs.declared.ty.value.Heap.TheVariants as heap
use Rattle.wasm_binary.specs.Grammar.{abstract_type, reference, abbreviated, sub_code, IsRecType, IsTypes}
use Rattle.wasm_binary.specs.Faults.{IsNoText, BeginsNoText, GoesOn, IsFirstBad, IsBegun, begins_text, begins_several_supertypes, IsUnsupported, several_supertypes, comp_type, heap_type, ref_type, HasNothingUnsupported, IsSeenThere, error_offset, NamesUnsupported}
use Rattle.wasm_binary.specs.Steps.Reading.{Fails, expected_error, vec_at, group_at, types_at, IsSeenAtOnce}
use Rattle.wasm_binary.specs.Steps.Refusals.{with_reason, refusal, IsWithin, error_refusal}
use Rattle.wasm_binary.proofs.Basics.{not_both, which, rest_is}
use Rattle.wasm_binary.proofs.Lists.{vec_sound, vec_complete}
use Rattle.wasm_binary.proofs.Groups.{group_sound, group_complete, types_again}
use Rattle.wasm_binary.proofs.Faults.{DoesNotRead, stop, Tail, nothing, sub_of_several, before_comp, before_heap, before_ref, supertypes, tail_bytes, Fills, Begins, counts_several, comp_code, heap_code, ref_code, IsExpected, Names, names_said, by_integer, BeginAlike, some_alike, Stops, place_within, cut_there, stuck_there, step_err, inside, ends_with}
use Rattle.wasm_binary.proofs.FirstFaults.{made_entry, empty_struct_type, empty_struct, is_sub_entry, groups_halt}
use Rattle.wasm_binary.proofs.Places.{nothing_unsupported}

abbrev read : List GroupAt → Result (List GroupAt) Fault
read gs = Ok gs

same_read : (a b : List GroupAt) → read a ≡ read b → a ≡ b
same_read a b e = cc

pub one_section : (bytes : List ℕ) (a b : List GroupAt) → IsTypes bytes a → IsTypes bytes b → a ≡ b
one_section bytes a b h k = same_read a b (sym (types_again bytes a h) ∙ types_again bytes b k)

pub no_longer_text : (bytes more : List ℕ) (a b : List GroupAt) → IsTypes bytes a →
    IsTypes (bytes ++ more) b → more ≡ []
no_longer_text bytes more a b h k =
    let short = vec_complete IsRecType group_at group_complete bytes a more h in
    let long : vec_at group_at (bytes ++ more) ≡ Ok (b, []) =
    ap (vec_at group_at) (sym (append-nil (bytes ++ more)))
    ∙ vec_complete IsRecType group_at group_complete (bytes ++ more) b [] k in
    rest_is a b more [] (sym short ∙ long)

-- ---- where reading stops

types_fail : (bytes : List ℕ) → DoesNotRead (vec_at group_at) bytes → IsNoText bytes
unfolding types_at
types_fail bytes n gs h = not_both (types_at bytes) n.0 gs (rw n.1 refl) (types_again bytes gs h)

-- bytes behind the last group
trailing : (text : List ℕ) (gs : List GroupAt) (others : List ℕ) → IsTypes text gs → (others ≡ [] → ⊥) →
    IsNoText (text ++ others)
unfolding types_at
trailing text gs [] h some more k = some refl
trailing text gs (b ∷ others) h some more k =
    let e : types_at (text ++ b ∷ others) ≡ Err (stop (b ∷ others) (reason.Expected expected.End)) =
    rw (
      vec_complete IsRecType group_at group_complete text gs (b ∷ others) h,
      ne_eqb (length (b ∷ others)) 0 (λ q. omega (arith, q)),
    ) refl in
    not_both (types_at (text ++ b ∷ others)) (stop (b ∷ others) (reason.Expected expected.End)) more e
    (types_again (text ++ b ∷ others) more k)

types_stop : (bytes : List ℕ) (f : Fault) → types_at bytes ≡ Err f → Stops Names IsTypes IsNoText bytes f
unfolding types_at
types_stop bytes f e =
    step_err (vec_at group_at bytes) _ f e
    (λ h. inside IsTypes IsTypes [] (λ gs. gs) (λ t gs k. k) bytes bytes f refl
    (λ xs begins n. types_fail xs n) (groups_halt bytes f h))
    (λ gs rest h q. which (nat_eq (length rest) 0) (Ok gs) (expected_error rest expected.End) (Err f) q
    (λ h1 q1. absurd cc)
    (λ h1 q1.
    let t = vec_sound IsRecType group_at group_sound bytes gs rest h in
    let same : stop rest (reason.Expected expected.End) ≡ f = cc in
    ends_with names_said IsTypes IsNoText bytes f t.text rest [] gs t.parts
    (sym (ap (λ (k : Fault). k.left) same)) (subst (λ (k : Fault). IsExpected k.reason) same tt)
    (subst (λ (u : List ℕ). IsTypes u gs) (sym (append-nil t.text)) t.is_text)
    (λ other alike. trailing t.text gs other t.is_text (some_alike f.reason rest other alike).1)))

pub left_fits : (bytes : List ℕ) (f : Fault) → types_at bytes ≡ Err f → f.left ≤ length bytes
left_fits bytes f e =
    let s = types_stop bytes f e in
    place_within bytes (s.prefix ++ tail_bytes s.tail) s.left f.left s.parts s.place

seen_at_once : (offset : ℕ) (r : Reason) → IsSeenThere (with_reason offset r) → IsSeenAtOnce r
seen_at_once offset (reason.NotHeld held.Supertypes) h = h
seen_at_once offset v h = tt

-- ---- the bytes before it

begins_shorter : (prefix some others : List ℕ) → GoesOn IsTypes (prefix ++ (some ++ others)) →
    GoesOn IsTypes (prefix ++ some)
begins_shorter prefix some others g =
    record {
      more = others ++ g.more;
      value = g.value;
      is_text =
          subst (λ (u : List ℕ). IsTypes u g.value)
          (ap (λ (u : List ℕ). u ++ g.more) (sym (append_assoc prefix some others))
          ∙ append_assoc (prefix ++ some) others g.more) g.is_text;
    }

begins_all : (prefix : List ℕ) (tail : Tail) →
    ((more : List ℕ) → Fills tail more → GoesOn IsTypes (prefix ++ more))
    → IsBegun (prefix ++ tail_bytes tail)
begins_all prefix nothing goes_on = begins_text (prefix ++ []) (goes_on [] refl)
begins_all prefix (sub_of_several is_final) goes_on =
    begins_text (prefix ++ sub_code is_final ∷ [])
    (begins_shorter prefix (sub_code is_final ∷ []) (0 ∷ 0x5F ∷ 0 ∷ [])
    (goes_on (sub_code is_final ∷ 0 ∷ 0x5F ∷ 0 ∷ []) (
      made_entry is_final None empty_struct_type,
      is_sub_entry is_final,
    )))
begins_all prefix before_comp goes_on =
    begins_text (prefix ++ [])
    (begins_shorter prefix [] (0x5F ∷ 0 ∷ []) (goes_on (0x5F ∷ 0 ∷ []) (empty_struct_type, empty_struct)))
begins_all prefix before_heap goes_on =
    begins_text (prefix ++ [])
    (begins_shorter prefix [] (0x70 ∷ [])
    (goes_on (0x70 ∷ []) (heap.Abstract abstract.Func, abstract_type abstract.Func)))
begins_all prefix before_ref goes_on =
    begins_text (prefix ++ [])
    (begins_shorter prefix [] (0x70 ∷ [])
    (goes_on (0x70 ∷ []) (reference true (heap.Abstract abstract.Func), abbreviated abstract.Func)))
begins_all prefix (supertypes is_final count least h several) goes_on =
    begins_several_supertypes prefix count is_final least (λ more entry k. goes_on more (entry, k)) h several

-- ---- what no record holds there

unsupported : (prefix left : List ℕ) (tail : Tail) (what : NotHeld) → Begins what tail left →
    ((other : List ℕ) → BeginAlike (reason.NotHeld what) left other →
    IsNoText ((prefix ++ tail_bytes tail) ++ other))
    → ((text : List ℕ) → Fills tail text → GoesOn IsTypes (prefix ++ text)) →
    IsUnsupported what (prefix ++ tail_bytes tail) left
unsupported prefix _ _ _ (counts_several is_final count others n h le) stuck goes_on =
    let behind : List ℕ = prefix ++ sub_code is_final ∷ [] in
    several_supertypes prefix count others is_final n (λ text e k. goes_on text (e, k)) h le
    (λ more. subst IsNoText (sym (append_assoc behind count more))
    (stuck (count ++ more) (by_integer count others more n h)))
unsupported prefix _ _ _ (comp_code what code others h) stuck goes_on =
    rw (append-nil prefix) (comp_type prefix others what code (λ text c k. goes_on text (c, k)) h)
unsupported prefix _ _ _ (heap_code what code others h) stuck goes_on =
    rw (append-nil prefix) (heap_type prefix others what code (λ text c k. goes_on text (c, k)) h)
unsupported prefix _ _ _ (ref_code what code others h) stuck goes_on =
    rw (append-nil prefix) (ref_type prefix others what code (λ text c k. goes_on text (c, k)) h)

-- ---- what an error says

-- The bytes are a text of no groups, and the error says where.
pub record Refuses (bytes : List ℕ) (e : DecodeError) : Type 0 where
  pub refused : IfSome (error_offset e) (λ offset. IsNoText bytes)
  pub place : IfSome (error_offset e) (λ offset. offset ≤ length bytes)
  pub stuck :
      IfSome (error_offset e)
      (λ offset. IsSeenThere e → offset < length bytes → BeginsNoText (take (offset + 1) bytes))
  pub begun : IfSome (error_offset e) (λ offset. IsBegun (take offset bytes))
  pub unsupported : NamesUnsupported bytes e

refuses : (bytes front left : List ℕ) (n : ℕ) (r : Reason) → bytes ≡ front ++ left → n ≡ length left →
    IsNoText bytes → IsBegun front
    → ((other : List ℕ) → BeginAlike r left other → IsNoText (front ++ other))
    → ((what : NotHeld) → r ≡ reason.NotHeld what → IsUnsupported what front left)
    → ((e : Expected) → r ≡ reason.Expected e → HasNothingUnsupported bytes)
    → Refuses bytes (with_reason (length bytes - n) r)
refuses bytes front left n (reason.Expected x) parts is refuted begun stuck names lacking =
    let cut = cut_there bytes front left n parts is in
    record {
      refused = refuted;
      place = omega arith;
      stuck = λ seen lt. stuck_there IsNoText bytes front left n (reason.Expected x) parts is tt stuck
          (omega (arith, lt));
      begun = subst IsBegun (sym cut.0) begun;
      unsupported = lacking x refl;
    }
refuses bytes front left n (reason.NotHeld w) parts is refuted begun stuck names lacking =
    let cut = cut_there bytes front left n parts is in
    record {
      refused = refuted;
      place = omega arith;
      stuck = λ seen lt. stuck_there IsNoText bytes front left n (reason.NotHeld w) parts is
          (seen_at_once (length bytes - n) (reason.NotHeld w) seen) stuck (omega (arith, lt));
      begun = subst IsBegun (sym cut.0) begun;
      unsupported = rw (cut.0, cut.1) (names w refl);
    }

pub fault_refuses : (bytes : List ℕ) (f : Fault) → types_at bytes ≡ Err f →
    Refuses bytes (refusal (length bytes) f)
fault_refuses bytes f e =
    let s = types_stop bytes f e in
    refuses bytes (s.prefix ++ tail_bytes s.tail) s.left f.left f.reason s.parts s.place
    (λ gs h. not_both (types_at bytes) f gs e (types_again bytes gs h))
    (begins_all s.prefix s.tail s.goes_on) s.stuck
    (λ what is. unsupported s.prefix s.left s.tail what
    (subst (λ (r : Reason). Names r s.tail s.left) is s.says)
    (λ other alike. s.stuck other (subst (λ (r : Reason). BeginAlike r s.left other) (sym is) alike))
    s.goes_on)
    (nothing_unsupported bytes f e)

pub error_within : (bytes left : List ℕ) (e : RawReadError) → Fails left e (types_at bytes)
    → IsWithin (length bytes) (length left) e
error_within bytes left errors.Memory h = tt
error_within bytes left (errors.Reason r) h =
    left_fits bytes (record { left = length left; reason = r }) h

pub error_refuses : (bytes left : List ℕ) (e : RawReadError) → Fails left e (types_at bytes)
    → Refuses bytes (error_refusal (length bytes) (length left) e)
error_refuses bytes left errors.Memory h =
    record { refused = tt; place = tt; stuck = tt; begun = tt; unsupported = tt }
error_refuses bytes left (errors.Reason r) h =
    fault_refuses bytes (record { left = length left; reason = r }) h

-- ---- the first bad byte

no_earlier : (bytes : List ℕ) (a b : ℕ) → a < b → GoesOn IsTypes (take b bytes)
    → BeginsNoText (take (a + 1) bytes) → ⊥
no_earlier bytes a b lt g bad =
    let early : List ℕ = take (a + 1) bytes in
    let rest : List ℕ = drop (a + 1) (take b bytes) in
    let is : take b bytes ≡ early ++ rest =
    sym (take-append-drop (a + 1) (take b bytes))
    ∙ ap (λ (u : List ℕ). u ++ rest) (take-take (a + 1) b bytes (omega (arith, lt))) in
    let longer : IsTypes ((early ++ rest) ++ g.more) g.value =
    subst (λ (u : List ℕ). IsTypes (u ++ g.more) g.value) is g.is_text in
    bad (rest ++ g.more) g.value
    (subst (λ (u : List ℕ). IsTypes u g.value) (append_assoc early rest g.more) longer)

-- no bad byte is before another
no_other : (bytes : List ℕ) (a b : ℕ) → IsFirstBad bytes a → IsFirstBad bytes b → b ≤ a
no_other bytes a b h k =
    elim (cases_lt a b) [
      | inl lt ↦
          let inner : a < length bytes = omega (arith, lt, k.place) in
          absurd (no_earlier bytes a b lt k.begun (h.stuck inner))
      | inr le ↦ le
    ]

pub one_first_bad_byte : (bytes : List ℕ) (a b : ℕ) → IsFirstBad bytes a → IsFirstBad bytes b → a ≡ b
one_first_bad_byte bytes a b h k = omega (arith, no_other bytes a b h k, no_other bytes b a k h)
