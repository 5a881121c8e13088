-- What is taken section by section is the module's sections.
use Rattle.std.proofs.Common.{◌≡◌, ℕ, zero, suc, ◌+◌, ◌-◌, ◌<◌, ◌≤◌, nat_le, List, [], ◌∷◌, ◌++◌, length, take, drop, Option, Some, None, Ok, Err, refl, sym, ap, subst, ◌∙◌, arith, append_assoc, length-append, take_at, drop_at, le-leb, leb-true, length-take-le, length-drop, take_all, slice_index_or, Result}
use Rattle.std.specs.Prelude.{IfSome, IfNone}
use Rattle.std.specs.Iterator.{MakesProgress, item_count}
use Rattle.wasm_binary.specs.Leb128.{IsU32}
use Rattle.wasm_binary.specs.Grammar.{AreItems, none, next}
use Rattle.wasm_binary.specs.Modules.{Section, section, IsSection, sized, header, IsModule, IsTypeSectionAt, HasNoTypeSection}
use Rattle.wasm_binary.specs.Steps.Reading.{u32_at}
use Rattle.wasm_binary.specs.declared.error.Fault.{Fault}
use Rattle.wasm_binary.proofs.Basics.{which}
use Rattle.wasm_binary.proofs.Integers.{u32_sound, u32_complete}
use Rattle.wasm_binary.proofs.Modules.Faulting.{module_parts}
use Rattle.wasm_binary.proofs.Modules.Uniqueness.{located_types}
use Rattle.wasm_module.specs.Sections.{PlacedSection, placed, framing, ArePlaced}
use Rattle.wasm_module.specs.Sections.ArePlaced.{none as nothing, next as placed_next}
use Rattle.wasm_module.specs.Steps.Sections.{sized_at, first_at, sections_at}

-- the first byte, and the bytes behind it
pub first_apart : (bytes : List ℕ) → 1 ≤ length bytes →
    bytes ≡ slice_index_or bytes 0 0 ∷ take (length bytes - 1) (drop 1 bytes)
first_apart [] h = absurd (omega (arith, h))
first_apart (b ∷ bytes) h =
    ap (λ (u : List ℕ). b ∷ u) (sym (take_all (length (b ∷ bytes) - 1) bytes (omega arith)))

-- a section is taken from the front
first_again : (offset id : ℕ) (size content others : List ℕ) → IsU32 size (length content)
    → first_at offset (id ∷ (size ++ (content ++ others))) ≡ Some
    (placed offset (offset + 1 + length size) id content, others)
unfolding first_at
first_again offset id size content others h =
    let fits : length content ≤ length (content ++ others) = omega (arith, length-append content others) in
    let before : length (size ++ (content ++ others)) - length (content ++ others) ≡ length size =
    omega (arith, length-append size (content ++ others)) in
    rw (
      u32_complete size (length content) (content ++ others) h,
      le-leb (length content) (length (content ++ others)) fits,
      take_at content others (length content) refl,
      drop_at content others (length content) refl,
      before,
    )
    refl

-- the sections that are taken, and their places
pub record AreTaken (offset : ℕ) (bytes : List ℕ) (sections : List Section) (taken : List PlacedSection) :
    Type 0 where
  pub framed : framing taken ≡ sections
  pub places : ArePlaced offset bytes taken

taken_next : (offset id : ℕ) (size content others : List ℕ) (sections : List Section)
    (taken : List PlacedSection) → IsU32 size (length content)
    → AreTaken (offset + 1 + length size + length content) others sections taken
    → AreTaken offset (id ∷ (size ++ (content ++ others))) (section id content ∷ sections)
    (placed offset (offset + 1 + length size) id content ∷ taken)
taken_next offset id size content others sections taken h t =
    record {
      framed = ap (λ (u : List Section). section id content ∷ u) t.framed;
      places = placed_next offset id size content others taken h t.places;
    }

nothing_taken : (more offset : ℕ) → AreTaken offset [] [] (sections_at more offset [])
unfolding sections_at first_at
nothing_taken zero offset = record { framed = refl; places = nothing offset }
nothing_taken (suc more) offset = record { framed = refl; places = nothing offset }

pub all_taken : (bytes : List ℕ) (sections : List Section) → AreItems IsSection bytes sections →
    (more offset : ℕ) → length bytes ≤ more → AreTaken offset bytes sections (sections_at more offset bytes)
unfolding sections_at
all_taken _ _ none more offset le = nothing_taken more offset
all_taken _ _ (next _ others _ sections (sized id size content h) hs) zero offset le =
    absurd (omega (arith, le))
all_taken _ _ (next _ others _ sections (sized id size content h) hs) (suc more) offset le =
    let same : (id ∷ (size ++ content)) ++ others ≡ id ∷ (size ++ (content ++ others)) =
    ap (λ (u : List ℕ). id ∷ u) (append_assoc size content others) in
    let fewer : length others ≤ more = omega (arith, le, length-append (id ∷ (size ++ content)) others) in
    let rest = all_taken others sections hs more (offset + 1 + length size + length content) fewer in
    subst (λ (u : List ℕ). AreTaken offset u (section id content ∷ sections)
    (sections_at (suc more) offset u)) (sym same)
    (rw (first_again offset id size content others h)
    (taken_next offset id size content others sections _ h rest))

-- ---- what the loop over them sees

-- what was taken from the front
pub record IsFirst (offset : ℕ) (bytes : List ℕ) (s : PlacedSection) (rest : List ℕ) : Type 0 where
  pub shorter : length rest < length bytes
  pub sum : s.content_offset + length s.framed.content + length rest ≡ offset + length bytes

pub u32_shorter : (bytes : List ℕ) (n : ℕ) (rest : List ℕ) → u32_at bytes ≡ Ok (n, rest) →
    length rest ≤ length bytes
u32_shorter bytes n rest e =
    let t = u32_sound bytes n rest e in
    let long : length bytes ≡ length t.text + length rest = ap (λ (u : List ℕ). length u) t.parts
    ∙ length-append t.text rest in
    omega (arith, long)

abbrev pub some_of : PlacedSection → List ℕ → Option (PlacedSection × List ℕ)
some_of s rest = Some (s, rest)

pair_is : (x y : PlacedSection × List ℕ) → some_of x.0 x.1 ≡ some_of y.0 y.1 → x ≡ y
pair_is x y e = cc

some_is : (s t : PlacedSection) (a b : List ℕ) → some_of s a ≡ some_of t b → (s ≡ t) × (a ≡ b)
some_is s t a b e =
    let same = pair_is (s, a) (t, b) e in
    (ap (λ k. k.0) same, ap (λ k. k.1) same)

sized_first : (offset id : ℕ) (bytes : List ℕ) (n : ℕ) (left : List ℕ) (s : PlacedSection) (rest : List ℕ) →
    length left ≤ length bytes → n ≤ length left
    → some_of (placed offset (offset + 1 + (length bytes - length left)) id (take n left)) (drop n left) ≡
    some_of s rest → IsFirst offset (id ∷ bytes) s rest
sized_first offset id bytes n left s rest le fits e =
    let same = some_is _ s _ rest e in
    let k = placed offset (offset + 1 + (length bytes - length left)) id (take n left) in
    let taken : length (take n left) ≡ n = length-take-le n left fits in
    let dropped : length (drop n left) ≡ length left - n = length-drop n left in
    subst (λ (t : PlacedSection). IsFirst offset (id ∷ bytes) t rest) same.0
    (subst (λ (u : List ℕ). IsFirst offset (id ∷ bytes) k u) same.1
    (record { shorter = omega (arith, dropped, le); sum = omega (arith, taken, dropped, le, fits) }))

read_first : (offset id : ℕ) (bytes : List ℕ) (r : Result (ℕ × List ℕ) Fault) (s : PlacedSection)
    (rest : List ℕ) → u32_at bytes ≡ r → sized_at offset (length bytes) id r ≡ some_of s rest →
    IsFirst offset (id ∷ bytes) s rest
read_first offset id bytes (Err f) s rest reads e = absurd cc
read_first offset id bytes (Ok n) s rest reads e =
    which (nat_le n.0 (length n.1)) _ _ (some_of s rest) e
    (λ h q. sized_first offset id bytes n.0 n.1 s rest (u32_shorter bytes n.0 n.1 reads)
    (leb-true n.0 (length n.1) h) q)
    (λ h q. absurd cc)

pub is_first : (offset : ℕ) (bytes : List ℕ) (s : PlacedSection) (rest : List ℕ) →
    first_at offset bytes ≡ some_of s rest → IsFirst offset bytes s rest
unfolding first_at
is_first offset [] s rest e = absurd cc
is_first offset (id ∷ bytes) s rest e = read_first offset id bytes (u32_at bytes) s rest refl e

pub none_taken : (more offset : ℕ) (bytes : List ℕ) → first_at offset bytes ≡ None →
    sections_at more offset bytes ≡ []
unfolding sections_at
none_taken zero offset bytes e = refl
none_taken (suc more) offset bytes e = rw e refl

one_taken : (more offset : ℕ) (bytes : List ℕ) (s : PlacedSection) (rest : List ℕ) →
    first_at offset bytes ≡ some_of s rest
    → sections_at (suc more) offset bytes ≡ s ∷ sections_at more (s.content_offset + length s.framed.content)
    rest
unfolding sections_at
one_taken more offset bytes s rest e = rw e refl

-- which number there may be at most does not matter, if it is large enough
enough : (more others offset : ℕ) (bytes : List ℕ) (r : Option (PlacedSection × List ℕ)) →
    first_at offset bytes ≡ r → length bytes ≤ more → length bytes ≤ others →
    sections_at more offset bytes ≡ sections_at others offset bytes
enough more others offset bytes None e le ge = none_taken more offset bytes e
    ∙ sym (none_taken others offset bytes e)
enough zero others offset bytes (Some x) e le ge =
    absurd (let f = is_first offset bytes x.0 x.1 e in omega (arith, f.shorter, le))
enough (suc more) zero offset bytes (Some x) e le ge =
    absurd (let f = is_first offset bytes x.0 x.1 e in omega (arith, f.shorter, ge))
enough (suc more) (suc others) offset bytes (Some x) e le ge =
    let f = is_first offset bytes x.0 x.1 e in
    let next : ℕ = x.0.content_offset + length x.0.framed.content in
    one_taken more offset bytes x.0 x.1 e
    ∙ ap (λ (u : List PlacedSection). x.0 ∷ u) (enough more others next x.1 (first_at next x.1) refl
    (omega (arith, f.shorter, le)) (omega (arith, f.shorter, ge)))
    ∙ sym (one_taken others offset bytes x.0 x.1 e)

pub takes : (offset : ℕ) (bytes : List ℕ) (s : PlacedSection) (rest : List ℕ) →
    first_at offset bytes ≡ some_of s rest
    → sections_at (length bytes) offset bytes ≡ s ∷ sections_at (length rest)
    (s.content_offset + length s.framed.content) rest
takes offset bytes s rest e =
    let f = is_first offset bytes s rest e in
    let next : ℕ = s.content_offset + length s.framed.content in
    enough (length bytes) (suc (length bytes)) offset bytes (some_of s rest) e (omega arith) (omega arith)
    ∙ one_taken (length bytes) offset bytes s rest e
    ∙ ap (λ (u : List PlacedSection). s ∷ u) (enough (length bytes) (length rest) next rest
    (first_at next rest) refl (omega (arith, f.shorter)) (omega arith))

pub goes : {S A : Type 0} (can : List S → Type 0) (old new : List S) (x : A) (s : S) → can new →
    old ≡ s ∷ new → MakesProgress can (item_count (λ rest. rest)) old (Some x) new
goes can old new x s h e =
    let long : length old ≡ suc (length new) = ap (λ (u : List _). length u) e in
    record {
      on = λ finite. (h, tt, omega (arith, long));
      keeps = h;
      rests = λ finite. tt;
    }

-- ---- the sections of a module

abbrev pub after_header : List ℕ → List ℕ
after_header bytes = drop (length header) bytes

pub module_taken : (bytes : List ℕ) (sections : List Section) → IsModule bytes sections →
    AreTaken (length header) (after_header bytes) sections
    (sections_at (length (after_header bytes)) (length header) (after_header bytes))
module_taken bytes sections h =
    let m = module_parts bytes sections h in
    let behind : after_header bytes ≡ m.0 = ap after_header m.1 ∙ drop_at header m.0 (length header) refl in
    subst (λ (u : List ℕ). AreTaken (length header) u sections (sections_at (length u) (length header) u))
    (sym behind)
    (all_taken m.0 sections m.2.0 (length m.0) (length header) (omega arith))

-- what finding the type section shows
pub is_module : {R : Type 0} (start stop : R → ℕ) (bytes : List ℕ) (found : Option R) →
    IfSome found (λ r. IsTypeSectionAt bytes (start r) (stop r)) → IfNone found (HasNoTypeSection bytes) →
    (sections : List Section) × IsModule bytes sections
is_module start stop bytes (Some r) there absent =
    let m = located_types bytes (start r) (stop r) there in
    (m.0 ++ section 1 there.content ∷ m.1, m.2)
is_module start stop bytes None there absent = (absent.sections, absent.is_module)

pub taken_module : (bytes rest : List ℕ) → rest ≡ after_header bytes → (sections : List Section)
    × IsModule bytes sections → IsModule bytes (framing (sections_at (length rest) (length header) rest))
taken_module bytes rest e m =
    subst (λ (u : List ℕ). IsModule bytes (framing (sections_at (length u) (length header) u))) (sym e)
    (subst (λ (u : List Section). IsModule bytes u) (sym (module_taken bytes m.0 m.1).framed) m.1)

pub taken_places : (bytes rest : List ℕ) → rest ≡ after_header bytes → (sections : List Section)
    × IsModule bytes sections → ArePlaced (length header) (after_header bytes)
    (sections_at (length rest) (length header) rest)
taken_places bytes rest e m =
    subst (λ (u : List ℕ). ArePlaced (length header) (after_header bytes)
    (sections_at (length u) (length header) u)) (sym e) (module_taken bytes m.0 m.1).places
