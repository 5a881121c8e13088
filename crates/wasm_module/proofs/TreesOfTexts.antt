-- The syntax trees of texts, by their tokens.
use Rattle.std.proofs.Common.{◌≡◌, ℕ, List, [], ◌∷◌, ◌++◌, Option, Some, None, refl, sym, ap, subst, ◌∙◌, append_assoc}
use Rattle.wasm_binary.specs.Grammar.{none, next}
use Rattle.wasm_binary.proofs.Basics.{done, value_is}
use Rattle.wasm_module.specs.declared.kind.Kind.{Kind}
use Rattle.wasm_module.specs.declared.kind.Space.TheVariants as space
use Rattle.wasm_module.specs.declared.renaming.Widths.{Widths}
use Rattle.wasm_module.specs.Immediates.{Token, unsigned, signed, plain, type_name, Begins, index as index_begins, signed_index, Runs, stop, step, AreTexts, names_of, type_names}
use Rattle.wasm_module.specs.SyntaxTrees.{SyntaxTree, still, index, joined, bytes_of, names_in, TreeBecomes, unchanged, renumbers, joins}
use Rattle.wasm_module.specs.RenamedSections.{RenamesTexts}
use Rattle.wasm_module.specs.Renaming.{NewIndices, new_index, type_maps, least_width, text_of, Becomes, IsRenamed}
use Rattle.wasm_module.specs.Renaming.Becomes.{stays as token_stays, u32, s33}
use Rattle.wasm_module.specs.Steps.Heads.{beginning}
use Rattle.wasm_module.proofs.Heads.{begin_again}
use Rattle.wasm_module.proofs.NumberTexts.{cancel}
use Rattle.wasm_module.proofs.Rewriting.{same_map}
use Rattle.wasm_module.proofs.Scanning.{same_step}
use Rattle.wasm_module.proofs.Searching.{token_is}
use Rattle.wasm_module.proofs.Tokens.{View, u32_type, s33_type, other, view, token_text}
use Rattle.wasm_module.proofs.TreesOfChanges.{Changing, Writes, Finds, AreOne, still_bytes}

-- ---- tokens

abbrev pub named_tree : Option ℕ → Token → SyntaxTree
named_tree (Some j) (unsigned s text k) = index 0x80 text k
named_tree (Some j) (signed s text k) = index 0x40 text k
named_tree (Some j) (plain text) = still text
named_tree None p = still (text_of p)

abbrev pub token_tree : Token → SyntaxTree
token_tree p = named_tree (type_name p) p

abbrev pub tokens_tree : List Token → SyntaxTree
tokens_tree [] = still []
tokens_tree (p ∷ ps) = joined (token_tree p) (tokens_tree ps)

pub unnamed_tree : (p : Token) → type_name p ≡ None → token_tree p ≡ still (text_of p)
unnamed_tree p e = ap (λ o. named_tree o p) e

token_bytes : (p : Token) → View p → bytes_of (token_tree p) ≡ text_of p
token_bytes _ (u32_type text k) = refl
token_bytes _ (s33_type text k) = refl
token_bytes _ (other p unnamed maps) = ap bytes_of (unnamed_tree p unnamed)

pub token_names : (p : Token) → View p → names_in (token_tree p) ≡ names_of (type_name p)
token_names _ (u32_type text k) = refl
token_names _ (s33_type text k) = refl
token_names _ (other p unnamed maps) =
    ap names_in (unnamed_tree p unnamed) ∙ sym (ap names_of unnamed)

pub tokens_bytes : (kinds : List Kind) (text : List ℕ) (ps : List Token) (left : List Kind) →
    Runs kinds text ps left → bytes_of (tokens_tree ps) ≡ text
tokens_bytes _ _ _ _ (stop kinds) = refl
tokens_bytes _ _ _ _ (step k more kinds left text others p ps b runs) =
    ap (λ (u : List ℕ). u ++ bytes_of (tokens_tree ps))
    (token_bytes p (view p) ∙ sym (token_text k text p more b))
    ∙ ap (λ (u : List ℕ). text ++ u) (tokens_bytes (more ++ kinds) others ps left runs)

pub tokens_names : (ps : List Token) → names_in (tokens_tree ps) ≡ type_names ps
tokens_names [] = refl
tokens_names (p ∷ ps) =
    ap (λ (u : List ℕ). u ++ names_in (tokens_tree ps)) (token_names p (view p))
    ∙ ap (λ (u : List ℕ). names_of (type_name p) ++ u) (tokens_names ps)

same_type_name : (k : Kind) (text : List ℕ) (p q : Token) (more inner : List Kind) →
    Begins k text p more → Begins k text q inner → type_name p ≡ type_name q
same_type_name k text p q more inner h g =
    let read : done (beginning (type_name p) more) [] ≡ done (beginning (type_name q) inner) [] =
    sym (begin_again k text p more [] h) ∙ begin_again k text q inner [] g in
    ap (λ u. u.named) (value_is (beginning (type_name p) more) (beginning (type_name q) inner) [] [] read)

-- a text that begins with an index of a type begins with no other token
same_index : (k : Kind) (text : List ℕ) (p q : Token) (more inner : List Kind) (i : ℕ) →
    type_name p ≡ Some i → Begins k text p more → Begins k text q inner → q ≡ p
same_index k text p q more inner i named h g =
    token_is k text q inner i g (sym (same_type_name k text p q more inner h g) ∙ named)
    ∙ sym (token_is k text p more i h named)

-- a text has one tree
one_token : (k : Kind) (text : List ℕ) (p q : Token) (more inner : List Kind) → View q →
    Begins k text p more → Begins k text q inner → token_tree p ≡ token_tree q
one_token k text p _ more inner (u32_type before j) h g =
    ap token_tree (same_index k text (unsigned space.Type before j) p inner more j refl g h)
one_token k text p _ more inner (s33_type before j) h g =
    ap token_tree (same_index k text (signed space.Type before j) p inner more j refl g h)
one_token k text p _ more inner (other q unnamed maps) h g =
    let none : type_name p ≡ None = same_type_name k text p q more inner h g ∙ unnamed in
    unnamed_tree p none
    ∙ (ap (λ (u : List ℕ). still u) (sym (token_text k text p more h) ∙ token_text k text q inner g)
    ∙ sym (unnamed_tree q unnamed))

pub one_text : (kinds : List Kind) (a : List ℕ) (ps : List Token) (b : List ℕ) (qs : List Token)
    (r s : List ℕ) → AreTexts kinds a ps → AreTexts kinds b qs → a ++ r ≡ b ++ s →
    tokens_tree ps ≡ tokens_tree qs
one_text _ _ _ _ _ r s (stop _) (stop _) e = refl
one_text _ _ _ _ _ r s (step k more kinds _ text others p ps h runs)
    (step _ inner _ _ text' others' q qs g runs') e =
    let bytes : text ++ (others ++ r) ≡ text' ++ (others' ++ s) =
    sym (append_assoc text others r) ∙ e ∙ append_assoc text' others' s in
    let same = same_step k text text' p q more inner (others ++ r) (others' ++ s) h g bytes in
    let begins : text ≡ text' = cancel text text' (others ++ r) (others' ++ s) bytes same.1 in
    let one : token_tree p ≡ token_tree q = one_token k text p q more inner (view q) h
    (subst (λ (u : List ℕ). Begins k u q inner) (sym begins) g) in
    let rest : tokens_tree ps ≡ tokens_tree qs = one_text (more ++ kinds) others ps others' qs r s runs
    (subst (λ (u : List Kind). AreTexts (u ++ kinds) others' qs) (sym same.0) runs') same.1 in
    ap (λ u. joined u (tokens_tree ps)) one ∙ ap (λ u. joined (token_tree q) u) rest

module _ (t : List ℕ) (m : NewIndices) (w : Widths) where
  abbrev Renamed : List ℕ → Token → Type 0
  Renamed new p = Becomes (type_maps m) (least_width w) new p

  token_from : (p : Token) (q : SyntaxTree) → View p → TreeBecomes t m w (token_tree p) q →
      Renamed (bytes_of q) p
  token_from _ _ (u32_type text k) (renumbers _ _ n _ new to is) =
      u32 space.Type (new_index m) text new k n refl to is
  token_from _ _ (s33_type text k) (renumbers _ _ n _ new to is) =
      s33 space.Type (new_index m) text new k n refl to is
  token_from _ q (other p unnamed maps) h =
      subst (λ (u : List ℕ). Renamed u p)
      (still_bytes t m w (text_of p) q
      (subst (λ (u : SyntaxTree). TreeBecomes t m w u q) (unnamed_tree p unnamed) h))
      (token_stays p (maps m))

  pub tokens_from : (ps : List Token) (q : SyntaxTree) → TreeBecomes t m w (tokens_tree ps) q →
      IsRenamed (type_maps m) (least_width w) ps (bytes_of q)
  tokens_from [] _ (unchanged _) = none
  tokens_from (p ∷ ps) _ (joins _ _ r s h g) =
      next (bytes_of r) (bytes_of s) p ps (token_from p r (view p) h) (tokens_from ps s g)

  -- the tokens of what was written
  record TokenAgain (k : Kind) (p : Token) (more : List Kind) (new : List ℕ) : Type 0 where
    token : Token
    begins : Begins k new token more
    becomes : TreeBecomes t m w (token_tree p) (token_tree token)

  token_again : (k : Kind) (text : List ℕ) (p : Token) (more : List Kind) (new : List ℕ) → View p →
      Begins k text p more → Renamed new p → TokenAgain k p more new
  token_again k text _ more _ (u32_type _ _) h (token_stays _ e) = absurd cc
  token_again k text _ more _ (s33_type _ _) h (token_stays _ e) = absurd cc
  token_again k text _ more _ (other p unnamed maps) h (token_stays _ e) =
      record {
        token = p;
        begins = subst (λ (u : List ℕ). Begins k u p more) (token_text k text p more h) h;
        becomes =
            subst (λ (u : SyntaxTree). TreeBecomes t m w u u) (sym (unnamed_tree p unnamed))
            (unchanged (text_of p));
      }
  token_again _ _ _ _ _ (u32_type _ _) (index_begins s text k h) (u32 _ f _ new _ n ms mk is) =
      record {
        token = unsigned s new n;
        begins = index_begins s new n is.is_text;
        becomes = renumbers 0x80 k n text new (ap (λ f. f k) (same_map (new_index m) f ms) ∙ mk) is;
      }
  token_again _ _ _ _ _ (s33_type _ _) (signed_index k text j may h) (s33 _ f _ new _ n ms mk is) =
      record {
        token = signed _ new n;
        begins = signed_index k new n may is.is_text;
        becomes = renumbers 0x40 j n text new (ap (λ f. f j) (same_map (new_index m) f ms) ∙ mk) is;
      }
  token_again k text _ more _ (other _ unnamed maps) h (u32 s f _ new j n ms mk is) =
      let kept = maps m in absurd cc
  token_again k text _ more _ (other _ unnamed maps) h (s33 s f _ new j n ms mk is) =
      let kept = maps m in absurd cc

  pub record TextsAgain (kinds : List Kind) (ps : List Token) (left : List Kind) (new : List ℕ) :
      Type 0 where
    pub tokens : List Token
    pub runs : Runs kinds new tokens left
    pub becomes : TreeBecomes t m w (tokens_tree ps) (tokens_tree tokens)

  pub texts_again : (kinds : List Kind) (text : List ℕ) (ps : List Token) (left : List Kind) (new : List ℕ) →
      Runs kinds text ps left → IsRenamed (type_maps m) (least_width w) ps new →
      TextsAgain kinds ps left new
  texts_again _ _ _ _ _ (stop kinds) none =
      record { tokens = []; runs = stop kinds; becomes = unchanged [] }
  texts_again _ _ _ left _ (step k more kinds _ text others p ps h runs) (next x xs _ _ b bs) =
      let f = token_again k text p more x (view p) h b in
      let r = texts_again (more ++ kinds) others ps left xs runs bs in
      record {
        tokens = f.token ∷ r.tokens;
        runs = step k more kinds left x xs f.token r.tokens f.begins r.runs;
        becomes =
            joins (token_tree p) (tokens_tree ps) (token_tree f.token) (tokens_tree r.tokens) f.becomes
            r.becomes;
      }

-- ---- texts

abbrev pub TextsBy : List Kind → Changing
TextsBy kinds t m w = RenamesTexts m w kinds

pub data TextTree (kinds : List Kind) : SyntaxTree → Type 0 where
  text_tree :
      (text : List ℕ) (ps : List Token) → AreTexts kinds text ps → TextTree kinds (tokens_tree ps)

pub texts_one : (kinds : List Kind) → AreOne (TextTree kinds)
texts_one kinds _ _ (text_tree text ps are) (text_tree text' qs its) e =
    one_text kinds text ps text' qs [] [] are its
    (ap (λ (u : List ℕ). u ++ [])
    (sym (tokens_bytes kinds text ps [] are) ∙ e ∙ tokens_bytes kinds text' qs [] its))

pub texts_written : (kinds : List Kind) → Writes (TextsBy kinds) (λ n. TextTree kinds)
texts_written kinds t m w _ q (text_tree text ps are) h =
    let here : AreTexts kinds (bytes_of (tokens_tree ps)) ps =
    subst (λ (u : List ℕ). AreTexts kinds u ps) (sym (tokens_bytes kinds text ps [] are)) are in
    record {
      naming = record { tokens = ps; are = here; named = tokens_names ps };
      renames = record { tokens = ps; are = here; renamed = tokens_from t m w ps q h };
    }

pub texts_found : (kinds : List Kind) → Finds (TextsBy kinds) (λ n. TextTree kinds)
texts_found kinds t m w text new names h =
    let ps = h.renames.tokens in
    let are = h.renames.are in
    let r = texts_again t m w kinds text ps [] new are h.renames.renamed in
    record {
      tree = tokens_tree ps;
      new_tree = tokens_tree r.tokens;
      is = text_tree text ps are;
      is_again = λ n bound. text_tree new r.tokens r.runs;
      becomes = r.becomes;
      text_is = tokens_bytes kinds text ps [] are;
      new_is = tokens_bytes kinds new r.tokens [] r.runs;
      names_are =
          h.naming.named ∙ sym (tokens_names h.naming.tokens)
          ∙ ap names_in (one_text kinds text h.naming.tokens text ps [] [] h.naming.are are refl);
    }
