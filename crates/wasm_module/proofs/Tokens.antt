-- The tokens of a text: their bytes, and which of them name a type.
use Rattle.std.proofs.Common.{◌≡◌, ℕ, List, ◌++◌, None, refl, ap, ◌∙◌}
use Rattle.std.specs.List.{flat_map}
use Rattle.wasm_module.specs.declared.kind.Space.{Space}
use Rattle.wasm_module.specs.declared.kind.Space.TheVariants as space
use Rattle.wasm_module.specs.declared.kind.Kind.{Kind}
use Rattle.wasm_module.specs.Immediates.{Token, unsigned, signed, plain, type_name, Begins, index, signed_index, number, byte, offset, i32, i64, raw, byte_vec, import, Runs, stop, step}
use Rattle.wasm_module.specs.Renaming.{NewIndices, type_maps, text_of, map_for}

-- ---- their bytes

pub token_text : (k : Kind) (text : List ℕ) (token : Token) (kinds : List Kind) → Begins k text token kinds →
    text ≡ text_of token
token_text _ _ _ _ (index s text k h) = refl
token_text _ _ _ _ (signed_index k text m may h) = refl
token_text _ _ _ _ (number k text m kinds h e) = refl
token_text _ _ _ _ (byte k x kinds e) = refl
token_text _ _ _ _ (offset text m h) = refl
token_text _ _ _ _ (i32 text h) = refl
token_text _ _ _ _ (i64 text h) = refl
token_text _ _ _ _ (raw text m some h) = refl
token_text _ _ _ _ (byte_vec count bytes h) = refl
token_text _ _ _ _ (import count name h) = refl

abbrev pub texts_of : List Token → List ℕ
texts_of tokens = flat_map text_of tokens

pub whole_text : (kinds : List Kind) (text : List ℕ) (tokens : List Token) (left : List Kind) →
    Runs kinds text tokens left → text ≡ texts_of tokens
whole_text _ _ _ _ (stop kinds) = refl
whole_text _ _ _ _ (step k more kinds left text others token tokens b runs) =
    ap (λ (u : List ℕ). u ++ others) (token_text k text token more b)
    ∙ ap (λ (u : List ℕ). text_of token ++ u) (whole_text (more ++ kinds) others tokens left runs)

-- ---- which of them name a type

-- a token that is the index of a type, or one that names none
pub data View : Token → Type 0 where
  u32_type : (text : List ℕ) (k : ℕ) → View (unsigned space.Type text k)
  s33_type : (text : List ℕ) (k : ℕ) → View (signed space.Type text k)
  other :
      (p : Token) → type_name p ≡ None →
      ((new_indices : NewIndices) → map_for (type_maps new_indices) p ≡ None)
      → View p

unsigned_view : (s : Space) (text : List ℕ) (k : ℕ) → View (unsigned s text k)
unsigned_view space.Type text k = u32_type text k
unsigned_view space.Function text k = other _ refl (λ u. refl)
unsigned_view space.Table text k = other _ refl (λ u. refl)
unsigned_view space.Memory text k = other _ refl (λ u. refl)
unsigned_view space.Tag text k = other _ refl (λ u. refl)
unsigned_view space.Global text k = other _ refl (λ u. refl)
unsigned_view space.Element text k = other _ refl (λ u. refl)
unsigned_view space.Data text k = other _ refl (λ u. refl)
unsigned_view space.Local text k = other _ refl (λ u. refl)
unsigned_view space.Label text k = other _ refl (λ u. refl)
unsigned_view space.Field text k = other _ refl (λ u. refl)

signed_view : (s : Space) (text : List ℕ) (k : ℕ) → View (signed s text k)
signed_view space.Type text k = s33_type text k
signed_view space.Function text k = other _ refl (λ u. refl)
signed_view space.Table text k = other _ refl (λ u. refl)
signed_view space.Memory text k = other _ refl (λ u. refl)
signed_view space.Tag text k = other _ refl (λ u. refl)
signed_view space.Global text k = other _ refl (λ u. refl)
signed_view space.Element text k = other _ refl (λ u. refl)
signed_view space.Data text k = other _ refl (λ u. refl)
signed_view space.Local text k = other _ refl (λ u. refl)
signed_view space.Label text k = other _ refl (λ u. refl)
signed_view space.Field text k = other _ refl (λ u. refl)

pub view : (p : Token) → View p
view (unsigned s text k) = unsigned_view s text k
view (signed s text k) = signed_view s text k
view (plain text) = other (plain text) refl (λ u. refl)
