-- Texts with other indices: each token that is an index gets the text of its new number, and all
-- else stays byte for byte.
use Rattle.std.specs.Prelude.{◌≡◌, ℕ, ◌^◌, ◌≤◌, List, [], ◌∷◌, ◌++◌, length, map, Option, Some, None, slice_index_or, IsSome}
use Rattle.std.specs.List.{All}
use Rattle.wasm_binary.specs.Grammar.{AreItems}
use Rattle.wasm_binary.specs.Leb128.{IsInteger}
use Rattle.wasm_module.specs.declared.kind.Space.{Space}
use Rattle.wasm_module.specs.declared.kind.Space.TheVariants as space
use Rattle.wasm_module.specs.declared.kind.Kind.{Kind}
use Rattle.wasm_module.specs.declared.renaming.Widths.{Widths}
use Rattle.wasm_module.specs.declared.renaming.Widths.TheVariants as widths
use Rattle.wasm_module.specs.Bodies.{Names}
use Rattle.wasm_module.specs.Immediates.{Token, unsigned, signed, plain, Runs, AreTexts, type_names}

-- Which number an index becomes, by its index space. A space without a map keeps its indices byte
-- for byte, padded or not. A map has no number for an index that is unknown.
abbrev pub Maps : Type 0
Maps = Space → Option (ℕ → Option ℕ)

-- The new index of each type, in the order of the old ones. A deleted type has none.
abbrev pub NewIndices : Type 0
NewIndices = List (Option ℕ)

-- The new index of type k. It has none where it is deleted, or where there is no k-th item.
abbrev pub new_index : NewIndices → ℕ → Option ℕ
new_index new_indices k = slice_index_or new_indices k None

-- types get their new indices, and all other indices stay
abbrev pub type_maps : NewIndices → Maps
type_maps new_indices space.Type = Some (new_index new_indices)
type_maps new_indices _ = None

-- how many bytes a new index has at least, by how many were there
abbrev pub least_width : Widths → ℕ → ℕ
least_width widths.Shortest before = 0
least_width widths.Kept before = before

-- *The* text of a number with this many bytes at least: no text with as many is shorter.
pub record IsTextOf (end least : ℕ) (text : List ℕ) (n : ℕ) : Type 0 where
  pub is_text : IsInteger end (2 ^ 32) text n
  pub wide : least ≤ length text
  pub shortest :
      (others : List ℕ) → IsInteger end (2 ^ 32) others n → least ≤ length others
      → length text ≤ length others

-- the bytes of a token
abbrev pub text_of : Token → List ℕ
text_of (unsigned s text k) = text
text_of (signed s text k) = text
text_of (plain text) = text

-- the map for a token, if it is an index that is written again
abbrev pub map_for : Maps → Token → Option (ℕ → Option ℕ)
map_for maps (unsigned s text k) = maps s
map_for maps (signed s text k) = maps s
map_for maps (plain text) = None

-- the bytes of a token after renaming
pub data Becomes (maps : Maps) (least : ℕ → ℕ) : List ℕ → Token → Type 0 where
  stays : (token : Token) → map_for maps token ≡ None → Becomes maps least (text_of token) token
  u32 :
      (s : Space) (m : ℕ → Option ℕ) (text new : List ℕ) (k n : ℕ)
      → maps s ≡ Some m → m k ≡ Some n → IsTextOf 0x80 (least (length text)) new n
      → Becomes maps least new (unsigned s text k)
  s33 :
      (s : Space) (m : ℕ → Option ℕ) (text new : List ℕ) (k n : ℕ)
      → maps s ≡ Some m → m k ≡ Some n → IsTextOf 0x40 (least (length text)) new n
      → Becomes maps least new (signed s text k)

-- the bytes of these tokens after renaming
abbrev pub IsRenamed : Maps → (ℕ → ℕ) → List Token → List ℕ → Type 0
IsRenamed maps least tokens new = AreItems (Becomes maps least) new tokens

-- the bytes are texts of these kinds, and `new` are the same with other indices
pub record Renames (maps : Maps) (least : ℕ → ℕ) (kinds : List Kind) (bytes new : List ℕ) :
    Type 0 where
  pub tokens : List Token
  pub are : AreTexts kinds bytes tokens
  pub renamed : IsRenamed maps least tokens new

-- texts of these kinds were taken from the front of bytes, and `new` are the same with other
-- indices
pub record RenamesPrefix (maps : Maps) (least : ℕ → ℕ) (kinds : List Kind)
    (bytes rest new : List ℕ) : Type 0 where
  pub text : List ℕ
  pub parts : bytes ≡ text ++ rest
  pub renames : Renames maps least kinds text new

-- both are texts of these kinds, and the types that the second one names are the new ones
pub record AreRenamed (new_indices : NewIndices) (kinds : List Kind) (bytes new : List ℕ) :
    Type 0 where
  pub names : List ℕ
  pub new_names : List ℕ
  pub before : Names kinds bytes names
  pub after : Names kinds new new_names
  pub mapped : map (new_index new_indices) names ≡ map (λ k. Some k) new_names

-- ---- what is refused

-- the bytes are no texts of these kinds
abbrev pub IsNoText : List Kind → List ℕ → Type 0
IsNoText kinds bytes = (tokens : List Token) → AreTexts kinds bytes tokens → ⊥

-- no texts of these kinds begin the bytes
abbrev pub BeginsNoText : List Kind → List ℕ → Type 0
BeginsNoText kinds bytes = (text rest : List ℕ) → bytes ≡ text ++ rest → IsNoText kinds text

-- Texts of these kinds can begin as the bytes do up to the first index of a type that has no new
-- one, which is `k`.
pub record NamesUnknown (new_indices : NewIndices) (kinds : List Kind) (bytes : List ℕ)
    (k : ℕ) : Type 0 where
  pub text : List ℕ
  pub rest : List ℕ
  pub parts : bytes ≡ text ++ rest
  pub tokens : List Token
  pub left : List Kind
  pub runs : Runs kinds text tokens left
  pub known : List ℕ
  pub names : type_names tokens ≡ known ++ k ∷ []
  pub are_known : All (λ j. IsSome (new_index new_indices j)) known
  pub unknown : new_index new_indices k ≡ None
