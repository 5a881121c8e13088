-- Where reading stops: whatever comes behind the byte there, no text goes on, and with the bytes before it
-- a text does. Only a count of two supertypes or more may be begun behind bytes that go on.
use Rattle.std.proofs.Common.{◌≡◌, ℕ, ◌^◌, ◌<◌, ◌≤◌, ◌+◌, ◌-◌, Bool, true, nat_eq, eqb-true, List, [], ◌∷◌, ◌++◌, length, take, drop, Result, Ok, Err, refl, sym, ap, subst, ◌∙◌, append_assoc, append-nil, length-append, take_at, drop_at, arith}
use Rattle.walrus_ty.specs.declared.ty.value.Heap.{Heap}
use Rattle.walrus_ty.specs.declared.ty.value.Reference.{Reference}
use Rattle.walrus_ty.specs.declared.records.CompAt.{CompAt}
use Rattle.walrus_ty.specs.declared.records.EntryAt.{EntryAt}
use Rattle.wasm_binary.specs.declared.error.Expected.{Expected}
use Rattle.wasm_binary.specs.declared.error.NotHeld.{NotHeld}
use Rattle.wasm_binary.specs.declared.error.NotHeld.TheVariants as held
use Rattle.wasm_binary.specs.declared.error.Reason.{Reason}
use Rattle.wasm_binary.specs.declared.error.Reason.TheVariants as reason
use Rattle.wasm_binary.specs.declared.error.Fault.{Fault}
use Rattle.wasm_binary.specs.Leb128.{IsInteger, last, more, IsU32}
use Rattle.wasm_binary.specs.Grammar.{IsHeapType, IsRefType, IsCompType, sub_code, IsSubType}
use Rattle.wasm_binary.specs.Faults.{GoesOn, IsUnsupportedComp, IsUnsupportedHeap}
use Rattle.wasm_binary.specs.Steps.Reading.{◌>>=◌, IsSeenAtOnce}
use Rattle.wasm_binary.proofs.Basics.{Reading, IsSound, IsComplete, done}

abbrev pub failed : {A : Type 0} → Fault → Reading A
failed f = Err f

abbrev pub DoesNotRead : {A : Type 0} → (List ℕ → Reading A) → List ℕ → Type 0
DoesNotRead reads bytes = (g : Fault) × (reads bytes ≡ failed g)

-- what stopped there
abbrev pub stop : List ℕ → Reason → Fault
stop bytes r = record { left = length bytes; reason = r }

abbrev pub here : {A : Type 0} → List ℕ → Reason → Reading A
here bytes r = Err (record { left = length bytes; reason = r })

pub left_is : {A : Type 0} (bytes : List ℕ) (r : Reason) (f : Fault) → here {A = A} bytes r ≡ failed f →
    f.left ≡ length bytes
left_is bytes r f e = let same : record { left = length bytes; reason = r } ≡ f = cc in
    sym (ap (λ (k : Fault). k.left) same)

pub reason_is : {A : Type 0} (bytes : List ℕ) (r : Reason) (f : Fault) → here {A = A} bytes r ≡ failed f →
    f.reason ≡ r
reason_is bytes r f e = let same : record { left = length bytes; reason = r } ≡ f = cc in
    sym (ap (λ (k : Fault). k.reason) same)

pub map_err : {A B : Type 0} (r : Reading A) (g : A → B) (f : Fault) →
    (r >>= (λ x. done (g x.0) x.1)) ≡ failed f → r ≡ failed f
map_err (Ok x) g f e = absurd cc
map_err {A = A} {B = B} (Err d) g f e = let same : d ≡ f = cc in ap (λ k. failed {A = A} k) same

-- which part failed
pub step_err : {A C P : Type 0} (r : Reading A) (g : A × List ℕ → Result C Fault) (f : Fault) →
    (r >>= g) ≡ Err f → (r ≡ failed f → P) →
    ((x : A) (rest : List ℕ) → r ≡ Ok (x, rest) → g (x, rest) ≡ Err f → P) → P
step_err (Ok x) g f e h k = k x.0 x.1 refl e
step_err {A = A} (Err d) g f e h k = h (let same : d ≡ f = cc in ap (λ k. failed {A = A} k) same)

-- ---- what goes on

-- What stands between bytes that go on and the place where reading stopped: the first byte of a
-- definition, with the first bytes of its count of supertypes or without; else nothing. It says what
-- no record holds there, too.
pub data Tail : Type 0 where
  nothing : Tail
  sub_of_several : (is_final : Bool) → Tail
  before_comp : Tail
  before_heap : Tail
  before_ref : Tail
  supertypes :
      (is_final : Bool) (count : List ℕ) (least : ℕ) → IsU32 (count ++ 0 ∷ []) least → 2 ≤ least
      → Tail

abbrev pub tail_bytes : Tail → List ℕ
tail_bytes nothing = []
tail_bytes (sub_of_several is_final) = sub_code is_final ∷ []
tail_bytes before_comp = []
tail_bytes before_heap = []
tail_bytes before_ref = []
tail_bytes (supertypes is_final count least h several) = sub_code is_final ∷ count

-- what may stand in its place
abbrev pub Fills : Tail → List ℕ → Type 0
Fills nothing text = text ≡ []
Fills (sub_of_several is_final) text = (entry : EntryAt) × IsSubType text entry
Fills before_comp text = (c : CompAt) × IsCompType text c
Fills before_heap text = (h : Heap ℕ) × IsHeapType text h
Fills before_ref text = (r : Reference ℕ) × IsRefType text r
Fills (supertypes is_final count least h several) text = (entry : EntryAt) × IsSubType text entry

-- what no record holds, behind the tail
pub data Begins : NotHeld → Tail → List ℕ → Type 0 where
  counts_several :
      (is_final : Bool) (count others : List ℕ) (n : ℕ) → IsU32 count n → 2 ≤ n
      → Begins held.Supertypes (sub_of_several is_final) (count ++ others)
  comp_code :
      (what : NotHeld) (code : ℕ) (others : List ℕ) → IsUnsupportedComp what code
      → Begins what before_comp (code ∷ others)
  heap_code :
      (what : NotHeld) (code : ℕ) (others : List ℕ) → IsUnsupportedHeap what code
      → Begins what before_heap (code ∷ others)
  ref_code :
      (what : NotHeld) (code : ℕ) (others : List ℕ) → IsUnsupportedHeap what code
      → Begins what before_ref (code ∷ others)

abbrev pub IsExpected : Reason → Type 0
IsExpected (reason.Expected e) = Unit {0}
IsExpected (reason.NotHeld what) = ⊥

-- what the reason says of the tail and of the bytes that are left
abbrev pub Saying : Type 1
Saying = Reason → Tail → List ℕ → Type 0

-- what no record holds is behind the tail
abbrev pub Names : Saying
Names (reason.Expected e) tail left = Unit {0}
Names (reason.NotHeld what) tail left = Begins what tail left

-- something was expected, behind bytes that go on
abbrev pub Expects : Saying
Expects r tail left = (tail ≡ nothing) × IsExpected r

-- this is said where something was expected behind bytes that go on
abbrev pub IsSaid : Saying → Type 0
IsSaid Says = (r : Reason) (left : List ℕ) → IsExpected r → Says r nothing left

pub expected_names : (r : Reason) (tail : Tail) (left : List ℕ) → IsExpected r → Names r tail left
expected_names (reason.Expected e) tail left h = tt
expected_names (reason.NotHeld what) tail left h = absurd h

pub names_said : IsSaid Names
names_said r left h = expected_names r nothing left h

pub expects_said : IsSaid Expects
expects_said r left h = (refl, h)

pub expected_here : {A : Type 0} (bytes : List ℕ) (e : Expected) (f : Fault)
    → here {A = A} bytes (reason.Expected e) ≡ failed f → IsExpected f.reason
expected_here bytes e f h = subst IsExpected (sym (reason_is bytes (reason.Expected e) f h)) tt

-- ---- what does not go on

-- Bytes that begin as the ones at the fault do, as far as the fault is seen by that: with the same byte, or
-- with the same integer.
pub data BeginAlike (r : Reason) : List ℕ → List ℕ → Type 0 where
  by_byte : (b : ℕ) (rest other : List ℕ) → IsSeenAtOnce r → BeginAlike r (b ∷ rest) (b ∷ other)
  by_integer :
      (count rest other : List ℕ) (n : ℕ) → IsU32 count n → BeginAlike r (count ++ rest) (count ++ other)

-- an integer has a first byte
integer_starts : (end limit : ℕ) (text : List ℕ) (n : ℕ) → IsInteger end limit text n
    → (b : ℕ) × (others : List ℕ) × (text ≡ b ∷ others)
integer_starts end _ _ _ (last limit b low ends fits) = (b, [], refl)
integer_starts end _ _ _ (more limit b high bytes big byte wide h) = (b, bytes, refl)

-- both begin with one byte
alike_begin : (r : Reason) (left other : List ℕ) → BeginAlike r left other →
    (b : ℕ) × (rest : List ℕ) × (behind : List ℕ) × (left ≡ b ∷ rest) × (other ≡ b ∷ behind)
alike_begin r _ _ (by_byte b rest other seen) = (b, rest, other, refl, refl)
alike_begin r _ _ (by_integer count rest other n h) =
    let k = integer_starts 0x80 (2 ^ 32) count n h in (
      k.0,
      k.1 ++ rest,
      k.1 ++ other,
      ap (λ (u : List ℕ). u ++ rest) k.2,
      ap (λ (u : List ℕ). u ++ other) k.2,
    )

first_is : (b c : ℕ) (bytes rest : List ℕ) → c ∷ bytes ≡ b ∷ rest → c ≡ b
first_is b c bytes rest e = ap (elim [ [] ↦ 0 | x ∷ xs ↦ x ]) e

-- the first byte of the first bytes is that of the second ones
abbrev pub HasFirst : List ℕ → List ℕ → Type 0
HasFirst bytes others =
    (b : ℕ) (rest : List ℕ) → bytes ≡ b ∷ rest → (behind : List ℕ) × (others ≡ b ∷ behind)

pub alike_first : (r : Reason) (left other : List ℕ) → BeginAlike r left other → HasFirst left other
alike_first r left other alike b rest e =
    let k = alike_begin r left other alike in
    (k.2, k.4 ∙ ap (λ j. j ∷ k.2) (first_is b k.0 k.1 rest (sym k.3 ∙ e)))

pub some_alike : (r : Reason) (left other : List ℕ) → BeginAlike r left other →
    (left ≡ [] → ⊥) × (other ≡ [] → ⊥)
some_alike r left other alike =
    let k = alike_begin r left other alike in
    ((λ e. let p = sym e ∙ k.3 in absurd cc), (λ e. let p = sym e ∙ k.4 in absurd cc))

has_first : (r : Reason) (front left other bytes : List ℕ) → bytes ≡ front ++ left →
    BeginAlike r left other → HasFirst bytes (front ++ other)
has_first r [] left other bytes parts alike b rest e = alike_first r left other alike b rest (sym parts ∙ e)
has_first r (c ∷ front) left other bytes parts alike b rest e =
    (front ++ other, ap (λ j. j ∷ (front ++ other)) (first_is b c (front ++ left) rest (sym parts ∙ e)))

-- Reading stopped behind `prefix` and a tail: `prefix` goes on with what may stand in the tail's place, and
-- nothing is read of bytes that begin alike from there on.
pub record Stops {A : Type 0} (Says : Reason → Tail → List ℕ → Type 0) (IsText : List ℕ → A → Type 0)
    (Never : List ℕ → Type 0) (bytes : List ℕ) (f : Fault) : Type 0 where
  pub prefix : List ℕ
  pub tail : Tail
  pub left : List ℕ
  pub parts : bytes ≡ (prefix ++ tail_bytes tail) ++ left
  pub place : f.left ≡ length left
  pub says : Says f.reason tail left
  pub goes_on : (text : List ℕ) → Fills tail text → GoesOn IsText (prefix ++ text)
  pub stuck : (other : List ℕ) → BeginAlike f.reason left other → Never ((prefix ++ tail_bytes tail) ++ other)

abbrev pub HaltsBy : {A : Type 0} → Saying → (List ℕ → A → Type 0) → (List ℕ → Reading A) → Type 0
HaltsBy Says IsText reads =
    (bytes : List ℕ) (f : Fault) → reads bytes ≡ failed f → Stops Says IsText (DoesNotRead reads) bytes f

abbrev pub Halts : {A : Type 0} → (List ℕ → A → Type 0) → (List ℕ → Reading A) → Type 0
Halts IsText reads = HaltsBy Names IsText reads

-- ---- what follows of a place

pub place_within : (bytes front left : List ℕ) (n : ℕ) → bytes ≡ front ++ left → n ≡ length left →
    n ≤ length bytes
place_within bytes front left n parts is =
    omega (arith, ap (λ (u : List ℕ). length u) parts, length-append front left, is)

-- the bytes before the place and those from there on
pub cut_there : (bytes front left : List ℕ) (n : ℕ) → bytes ≡ front ++ left → n ≡ length left →
    (take (length bytes - n) bytes ≡ front) × (drop (length bytes - n) bytes ≡ left)
cut_there bytes front left n parts is =
    let long = ap (λ (u : List ℕ). length u) parts ∙ length-append front left in
    let many : length front ≡ length bytes - n = omega (arith, long, is) in (
      ap (λ (u : List ℕ). take (length bytes - n) u) parts ∙ take_at front left (length bytes - n) many,
      ap (λ (u : List ℕ). drop (length bytes - n) u) parts ∙ drop_at front left (length bytes - n) many,
    )

-- with the byte there nothing is read
pub stuck_there : (Never : List ℕ → Type 0) (bytes front left : List ℕ) (n : ℕ) (r : Reason) →
    bytes ≡ front ++ left → n ≡ length left → IsSeenAtOnce r →
    ((other : List ℕ) → BeginAlike r left other → Never (front ++ other)) → 0 < n → (behind : List ℕ) →
    Never (take (length bytes - n + 1) bytes ++ behind)
stuck_there Never bytes front [] n r parts is seen none lt behind =
    absurd (let k : n ≡ 0 = is in omega (arith, k, lt))
stuck_there Never bytes front (b ∷ left) n r parts is seen none lt behind =
    let long = ap (λ (u : List ℕ). length u) parts ∙ length-append front (b ∷ left) in
    let one : length (front ++ b ∷ []) ≡ length bytes - n + 1 =
    omega (arith, long, is, length-append front (b ∷ [])) in
    let taken : take (length bytes - n + 1) bytes ≡ front ++ b ∷ [] =
    ap (λ (u : List ℕ). take (length bytes - n + 1) u) (parts ∙ sym (append_assoc front (b ∷ []) left))
    ∙ take_at (front ++ b ∷ []) left (length bytes - n + 1) one in
    subst (λ (u : List ℕ). Never (u ++ behind)) (sym taken)
    (subst Never (sym (append_assoc front (b ∷ []) behind)) (none (b ∷ behind) (by_byte b left behind seen)))

-- ---- how parts stop

-- A part goes on to a whole, which has bytes before it, and others behind it.
extend : {A B : Type 0} (IsA : List ℕ → A → Type 0) (IsB : List ℕ → B → Type 0)
    → (pre : List ℕ) (post : A → List ℕ) (make : A → B)
    → ((t : List ℕ) (a : A) → IsA t a → IsB (pre ++ (t ++ post a)) (make a))
    → (x : List ℕ) → GoesOn IsA x → GoesOn IsB (pre ++ x)
extend IsA IsB pre post make made x g =
    let end = post g.value in
    let is : (pre ++ x) ++ (g.more ++ end) ≡ pre ++ ((x ++ g.more) ++ end) =
    append_assoc pre x (g.more ++ end)
    ∙ ap (λ (u : List ℕ). pre ++ u) (sym (append_assoc x g.more end)) in
    record {
      more = g.more ++ end;
      value = make g.value;
      is_text = subst (λ (u : List ℕ). IsB u (make g.value)) (sym is) (made (x ++ g.more) g.value g.is_text);
    }

regroup : (pre prefix tail left : List ℕ) →
    ((pre ++ prefix) ++ tail) ++ left ≡ pre ++ ((prefix ++ tail) ++ left)
regroup pre prefix tail left =
    ap (λ (u : List ℕ). u ++ left) (append_assoc pre prefix tail) ∙ append_assoc pre (prefix ++ tail) left

-- in a part behind which others stand
pub within : {A B : Type 0} {Says : Saying} {Never Nowhere : List ℕ → Type 0}
    (IsA : List ℕ → A → Type 0) (IsB : List ℕ → B → Type 0)
    → (pre : List ℕ) (post : A → List ℕ) (make : A → B)
    → ((t : List ℕ) (a : A) → IsA t a → IsB (pre ++ (t ++ post a)) (make a))
    → (bytes whole : List ℕ) (f : Fault) → whole ≡ pre ++ bytes
    → ((other : List ℕ) → HasFirst bytes other → Never other → Nowhere (pre ++ other))
    → Stops Says IsA Never bytes f → Stops Says IsB Nowhere whole f
within {Nowhere = Nowhere} IsA IsB pre post make made bytes whole f is fails s =
    let front : List ℕ = s.prefix ++ tail_bytes s.tail in
    record {
      prefix = pre ++ s.prefix;
      tail = s.tail;
      left = s.left;
      parts = is ∙ ap (λ (u : List ℕ). pre ++ u) s.parts
          ∙ sym (regroup pre s.prefix (tail_bytes s.tail) s.left);
      place = s.place;
      says = s.says;
      goes_on = λ text fills.
          subst (λ (u : List ℕ). GoesOn IsB u) (sym (append_assoc pre s.prefix text))
          (extend IsA IsB pre post make made (s.prefix ++ text) (s.goes_on text fills));
      stuck = λ other alike.
          subst Nowhere (sym (regroup pre s.prefix (tail_bytes s.tail) other))
          (fails (front ++ other) (has_first f.reason front s.left other bytes s.parts alike)
          (s.stuck other alike));
    }

-- in the last part
pub inside : {A B : Type 0} {Says : Saying} {Never Nowhere : List ℕ → Type 0}
    (IsA : List ℕ → A → Type 0) (IsB : List ℕ → B → Type 0)
    → (pre : List ℕ) (make : A → B) → ((t : List ℕ) (a : A) → IsA t a → IsB (pre ++ t) (make a))
    → (bytes whole : List ℕ) (f : Fault) → whole ≡ pre ++ bytes
    → ((other : List ℕ) → HasFirst bytes other → Never other → Nowhere (pre ++ other))
    → Stops Says IsA Never bytes f → Stops Says IsB Nowhere whole f
inside {A = A} IsA IsB pre make made =
    within IsA IsB pre (λ (a : A). []) make
    (λ t a h. subst (λ (u : List ℕ). IsB (pre ++ u) (make a)) (sym (append-nil t)) (made t a h))

-- behind this byte
pub behind_byte : {A B : Type 0} {Says : Saying} (IsA : List ℕ → A → Type 0) (IsB : List ℕ → B → Type 0)
    → (p : List ℕ → Reading A) (reads : List ℕ → Reading B) (k : ℕ) (make : A → B)
    → ((t : List ℕ) (a : A) → IsA t a → IsB (k ∷ t) (make a))
    → ((xs : List ℕ) → reads (k ∷ xs) ≡ (p xs >>= (λ x. done (make x.0) x.1))) → HaltsBy Says IsA p
    → (b : ℕ) (bytes : List ℕ) (f : Fault) → nat_eq b k ≡ true → reads (b ∷ bytes) ≡ failed f
    → Stops Says IsB (DoesNotRead reads) (b ∷ bytes) f
behind_byte IsA IsB p reads k make made same halts b bytes f is e =
    let first : b ≡ k = eqb-true b k is in
    let there = sym (same bytes) ∙ (ap (λ c. reads (c ∷ bytes)) (sym first) ∙ e) in
    inside IsA IsB (k ∷ []) make made bytes (b ∷ bytes) f (ap (λ c. c ∷ bytes) first)
    (λ xs begins n. (n.0, same xs ∙ rw n.1 refl)) (halts bytes f (map_err (p bytes) make f there))

-- in what has the same first byte
pub through : {A B : Type 0} {Says : Saying} (IsA : List ℕ → A → Type 0) (IsB : List ℕ → B → Type 0)
    → (p : List ℕ → Reading A) (reads : List ℕ → Reading B) (make : A → B)
    → ((t : List ℕ) (a : A) → IsA t a → IsB t (make a)) → HaltsBy Says IsA p → (b : ℕ)
    → ((xs : List ℕ) → reads (b ∷ xs) ≡ (p (b ∷ xs) >>= (λ x. done (make x.0) x.1)))
    → (bytes : List ℕ) (f : Fault) → reads (b ∷ bytes) ≡ failed f
    → Stops Says IsB (DoesNotRead reads) (b ∷ bytes) f
through IsA IsB p reads make made halts b same bytes f e =
    inside IsA IsB [] make made (b ∷ bytes) (b ∷ bytes) f refl
    (λ xs begins n.
    let k = begins b bytes refl in
    let fails : p (b ∷ k.0) ≡ failed n.0 = ap p (sym k.1) ∙ n.1 in
    (n.0, ap reads k.1 ∙ same k.0 ∙ rw fails refl))
    (halts (b ∷ bytes) f (map_err (p (b ∷ bytes)) make f (sym (same bytes) ∙ e)))

-- by these last bytes
pub ends_with : {A : Type 0} {Says : Saying} → IsSaid Says → (IsText : List ℕ → A → Type 0)
    (Never : List ℕ → Type 0) (bytes : List ℕ) (f : Fault) (prefix left end : List ℕ) (value : A)
    → bytes ≡ prefix ++ left → f.left ≡ length left → IsExpected f.reason → IsText (prefix ++ end) value
    → ((other : List ℕ) → BeginAlike f.reason left other → Never (prefix ++ other))
    → Stops Says IsText Never bytes f
ends_with said IsText Never bytes f prefix left end value parts place seen h none =
    record {
      prefix = prefix;
      tail = nothing;
      left = left;
      parts = parts ∙ ap (λ (u : List ℕ). u ++ left) (sym (append-nil prefix));
      place = place;
      says = said f.reason left seen;
      goes_on = λ text empty.
          let same : prefix ++ text ≡ prefix = ap (λ (u : List ℕ). prefix ++ u) empty ∙ append-nil prefix in
          record {
            more = end;
            value = value;
            is_text = subst (λ (u : List ℕ). IsText (u ++ end) value) (sym same) h;
          };
      stuck = λ other alike.
          subst (λ (u : List ℕ). Never (u ++ other)) (sym (append-nil prefix)) (none other alike);
    }

-- at the end of the bytes
pub at_end : {A : Type 0} {Says : Saying} → IsSaid Says → (IsText : List ℕ → A → Type 0)
    (reads : List ℕ → Reading A) (text : List ℕ) (value : A) → IsText text value
    → (e : Expected) (f : Fault) → here {A = A} [] (reason.Expected e) ≡ failed f
    → Stops Says IsText (DoesNotRead reads) [] f
at_end said IsText reads text value h e f q =
    ends_with said IsText (DoesNotRead reads) [] f [] [] text value refl
    (left_is [] (reason.Expected e) f q) (expected_here [] e f q) h
    (λ other alike. absurd ((some_alike f.reason [] other alike).0 refl))

-- what begins alike is refused alike
pub refused_alike : {A : Type 0} (reads : List ℕ → Reading A) (b : ℕ) (r why : Reason)
    → ((xs : List ℕ) → reads (b ∷ xs) ≡ here (b ∷ xs) r) → (bytes other : List ℕ)
    → BeginAlike why (b ∷ bytes) other → DoesNotRead reads other
refused_alike reads b r why same bytes other alike =
    let k = alike_first why (b ∷ bytes) other alike b bytes refl in
    (stop (b ∷ k.0) r, ap reads k.1 ∙ same k.0)

-- by the first byte
pub at_first : {A : Type 0} {Says : Saying} → IsSaid Says → (IsText : List ℕ → A → Type 0)
    (reads : List ℕ → Reading A) (text : List ℕ) (value : A) → IsText text value
    → (e : Expected) (b : ℕ) → ((xs : List ℕ) → reads (b ∷ xs) ≡ here (b ∷ xs) (reason.Expected e))
    → (bytes : List ℕ) (f : Fault) → reads (b ∷ bytes) ≡ failed f
    → Stops Says IsText (DoesNotRead reads) (b ∷ bytes) f
at_first said IsText reads text value h e b same bytes f q =
    let there = sym (same bytes) ∙ q in
    ends_with said IsText (DoesNotRead reads) (b ∷ bytes) f [] (b ∷ bytes) text value refl
    (left_is (b ∷ bytes) (reason.Expected e) f there) (expected_here (b ∷ bytes) e f there) h
    (refused_alike reads b (reason.Expected e) f.reason same bytes)

-- by a first byte of what no record holds
pub held_first : {A : Type 0} (IsText : List ℕ → A → Type 0) (reads : List ℕ → Reading A) (tail : Tail)
    → tail_bytes tail ≡ [] → ((text : List ℕ) → Fills tail text → (value : A) × IsText text value)
    → (what : NotHeld) (b : ℕ) → ((xs : List ℕ) → reads (b ∷ xs) ≡ here (b ∷ xs) (reason.NotHeld what))
    → (bytes : List ℕ) (f : Fault) → reads (b ∷ bytes) ≡ failed f → Begins what tail (b ∷ bytes)
    → Stops Names IsText (DoesNotRead reads) (b ∷ bytes) f
held_first IsText reads tail empty filled what b same bytes f q h =
    let there = sym (same bytes) ∙ q in
    record {
      prefix = [];
      tail = tail;
      left = b ∷ bytes;
      parts = ap (λ (u : List ℕ). u ++ b ∷ bytes) (sym empty);
      place = left_is (b ∷ bytes) (reason.NotHeld what) f there;
      says = subst (λ (r : Reason). Names r tail (b ∷ bytes))
          (sym (reason_is (b ∷ bytes) (reason.NotHeld what) f there)) h;
      goes_on = λ text fills.
          let v = filled text fills in
          record {
            more = [];
            value = v.0;
            is_text = subst (λ (u : List ℕ). IsText u v.0) (sym (append-nil text)) v.1;
          };
      stuck = λ other alike. subst (λ (u : List ℕ). DoesNotRead reads (u ++ other)) (sym empty)
          (refused_alike reads b (reason.NotHeld what) f.reason same bytes other alike);
    }

-- in one of two parts
pub pair_halts : {A B C : Type 0} {Says : Saying} (IsA : List ℕ → A → Type 0) (IsB : List ℕ → B → Type 0)
    → (IsC : List ℕ → C → Type 0) (p : List ℕ → Reading A) (q : List ℕ → Reading B) (m : A → B → C)
    → IsSound IsA p → IsComplete IsA p → HaltsBy Says IsA p → HaltsBy Says IsB q
    → (text : List ℕ) (value : B) → IsB text value
    → ((s t : List ℕ) (a : A) (b : B) → IsA s a → IsB t b → IsC (s ++ t) (m a b))
    → HaltsBy Says IsC (λ bytes. p bytes >>= (λ x. q x.1 >>= (λ y. done (m x.0 y.0) y.1)))
pair_halts {A = A} IsA IsB IsC p q m sound complete first second text value is_text made bytes f e =
    step_err (p bytes) (λ x. q x.1 >>= (λ y. done (m x.0 y.0) y.1)) f e
    (λ h. within IsA IsC [] (λ (a : A). text) (λ a. m a value) (λ s a k. made s text a value k is_text)
    bytes bytes f refl (λ xs begins n. (n.0, rw n.1 refl)) (first bytes f h))
    (λ x rest h k.
    let t = sound bytes x rest h in
    inside IsB IsC t.text (m x) (λ u b j. made t.text u x b t.is_text j) rest bytes f t.parts
    (λ xs begins n. (n.0, rw (complete t.text x xs t.is_text, n.1) refl))
    (second rest f (map_err (q rest) (m x) f k)))
