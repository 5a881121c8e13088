-- Reading a module's header and sections from left to right: the first fault, or what was read and
-- the bytes after it.
use Rattle.std.specs.Prelude.{◌≡◌, ℕ, ◌<◌, List, [], ◌∷◌, ◌++◌, length, take, drop, Result, Ok, Err, nat_lt, nat_le, nat_eq, cond}
use Rattle.wasm_binary.specs.declared.error.Expected.{Expected}
use Rattle.wasm_binary.specs.declared.error.Expected.TheVariants as expected
use Rattle.wasm_binary.specs.declared.error.Fault.{Fault}
use Rattle.wasm_binary.specs.Grammar.{AreItems}
use Rattle.wasm_binary.specs.Modules.{Section, section, ids, IsSection, AreInOrder, magic, version, header}
use Rattle.wasm_binary.specs.Steps.Reading.{◌>>=◌, expected_error, u32_at}

-- Some sections of a module were passed, the last of which that isn't custom has the place `last`,
-- and these bytes are left.
pub record HasPassed (bytes rest : List ℕ) (last : ℕ) : Type 0 where
  pub texts : List ℕ
  pub before : List Section
  pub whole : bytes ≡ header ++ (texts ++ rest)
  pub are : AreItems IsSection texts before
  pub joins : (after : List ℕ) → AreInOrder last after → AreInOrder 0 (ids before ++ after)
  pub splits :
      (more : List ℕ) (all : List Section) → AreItems IsSection (texts ++ more) all
      → AreInOrder 0 (ids all)
      → (after : List Section) × AreItems IsSection more after × AreInOrder last (ids after)

-- What a function returned, seen by view, is what reading gives.
abbrev pub Reads : {X Y : Type 0} → (X → Y) → Result X Fault → Result Y Fault → Type 0
Reads view (Ok x) read = read ≡ Ok (view x)
Reads view (Err f) read = read ≡ Err f

-- these bytes
unfoldable pub literal_at : Expected → List ℕ → List ℕ → Result (Unit {0} × List ℕ) Fault
literal_at e [] bytes = Ok (tt, bytes)
literal_at e (k ∷ text) [] = expected_error [] e
literal_at e (k ∷ text) (b ∷ bytes) =
    cond (nat_eq b k) (literal_at e text bytes) (expected_error (b ∷ bytes) e)

unfoldable pub header_at : List ℕ → Result (Unit {0} × List ℕ) Fault
header_at bytes =
    literal_at expected.Magic magic bytes >>= (λ m.
    literal_at expected.Version version m.1 >>= (λ v. Ok (tt, v.1)))

-- the place of a section of this id, and 0 where it has none
unfoldable pub place_of : ℕ → ℕ
place_of id =
    cond (nat_eq id 1) 1
    (cond (nat_eq id 2) 2
    (cond (nat_eq id 3) 3
    (cond (nat_eq id 4) 4
    (cond (nat_eq id 5) 5
    (cond (nat_eq id 13) 6
    (cond (nat_eq id 6) 7
    (cond (nat_eq id 7) 8
    (cond (nat_eq id 8) 9
    (cond (nat_eq id 9) 10
    (cond (nat_eq id 12) 11
    (cond (nat_eq id 10) 12
    (cond (nat_eq id 11) 13 0))))))))))))

-- the place of the last section that isn't custom, after one of this id
abbrev pub place_after : ℕ → ℕ → ℕ
place_after last id = cond (nat_eq id 0) last (place_of id)

-- the id of a section behind the place `last`
unfoldable pub id_at : ℕ → List ℕ → Result (ℕ × List ℕ) Fault
id_at last [] = expected_error [] expected.SectionId
id_at last (b ∷ bytes) =
    cond (nat_eq b 0) (Ok (b, bytes))
    (cond (nat_eq (place_of b) 0) (expected_error (b ∷ bytes) expected.SectionId)
    (cond (nat_lt last (place_of b)) (Ok (b, bytes))
    (expected_error (b ∷ bytes) expected.LaterSection)))

-- a size, and as many bytes
unfoldable pub content_at : List ℕ → Result (List ℕ × List ℕ) Fault
content_at bytes =
    u32_at bytes >>= (λ size.
    cond (nat_le size.0 (length size.1)) (Ok (take size.0 size.1, drop size.0 size.1))
    (expected_error [] expected.Content))

unfoldable pub section_at : ℕ → List ℕ → Result (Section × List ℕ) Fault
section_at last bytes =
    id_at last bytes >>= (λ id. content_at id.1 >>= (λ content.
    Ok (section id.0 content.0, content.1)))

-- fewer bytes than this are left behind the section with which the bytes begin
abbrev pub LeavesFewer : ℕ → ℕ → List ℕ → Type 0
LeavesFewer count last bytes =
    (s : Section) (after : List ℕ) → section_at last bytes ≡ Ok (s, after) → length after < count

-- fewer bytes than this are left behind the header
abbrev pub HeaderLeavesFewer : ℕ → List ℕ → Type 0
HeaderLeavesFewer count bytes =
    (rest : List ℕ) → header_at bytes ≡ Ok (tt, rest) → length rest < count
