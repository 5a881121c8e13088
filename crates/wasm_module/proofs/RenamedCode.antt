-- Code that was renamed names the new types.
use Rattle.std.proofs.Common.{◌≡◌, ℕ, List, [], ◌∷◌, ◌++◌, map, Option, Some, refl, sym, ap, ◌∙◌}
use Rattle.std.proofs.lemmas.List.{map-append}
use Rattle.wasm_module.specs.declared.kind.Kind.{Kind}
use Rattle.wasm_module.specs.declared.renaming.Widths.{Widths}
use Rattle.wasm_module.specs.Immediates.{Token, names_of, type_name, type_names}
use Rattle.wasm_module.specs.SyntaxTrees.{SyntaxTree, names_in, TreeBecomes, unchanged, renumbers, joins}
use Rattle.wasm_module.specs.Renaming.{NewIndices, new_index, type_maps, least_width, Renames, AreRenamed}
use Rattle.wasm_module.proofs.SyntaxTrees.{none_named}
use Rattle.wasm_module.proofs.TreesOfTexts.{token_tree, tokens_tree, token_names, tokens_names, texts_again}
use Rattle.wasm_module.proofs.Tokens.{View, u32_type, s33_type, other, view}

module _ (m : NewIndices) (w : Widths) where
  token_mapped : (p : Token) (q : SyntaxTree) → View p → TreeBecomes [] m w (token_tree p) q →
      map (λ k. new_index m k) (names_of (type_name p)) ≡ map (λ k. Some k) (names_in q)
  token_mapped _ _ (u32_type text k) (renumbers _ _ n _ new to is) = ap (λ o. o ∷ []) to
  token_mapped _ _ (s33_type text k) (renumbers _ _ n _ new to is) = ap (λ o. o ∷ []) to
  token_mapped _ q (other p unnamed maps) h =
      let nameless : names_of (type_name p) ≡ [] = ap names_of unnamed in
      ap (λ (u : List ℕ). map (λ k. new_index m k) u) nameless
      ∙ ap (λ (u : List ℕ). map (λ k. Some k) u)
      (sym (none_named [] m w (token_tree p) q h (token_names p (other p unnamed maps) ∙ nameless)))

  tokens_mapped : (ps : List Token) (q : SyntaxTree) → TreeBecomes [] m w (tokens_tree ps) q →
      map (λ k. new_index m k) (type_names ps) ≡ map (λ k. Some k) (names_in q)
  tokens_mapped [] _ (unchanged _) = refl
  tokens_mapped (p ∷ ps) _ (joins _ _ r s h g) =
      map-append (λ k. new_index m k) (names_of (type_name p)) (type_names ps)
      ∙ ap (λ (u : List (Option ℕ)). u ++ map (λ k. new_index m k) (type_names ps))
      (token_mapped p r (view p) h)
      ∙ ap (λ (u : List (Option ℕ)). map (λ k. Some k) (names_in r) ++ u) (tokens_mapped ps s g)
      ∙ sym (map-append (λ k. Some k) (names_in r) (names_in s))

pub names_follow : (m : NewIndices) (w : Widths) (kinds : List Kind) (bytes new : List ℕ) →
    Renames (type_maps m) (least_width w) kinds bytes new → AreRenamed m kinds bytes new
names_follow m w kinds bytes new h =
    let r = texts_again [] m w kinds bytes h.tokens [] new h.are h.renamed in
    record {
      names = type_names h.tokens;
      new_names = type_names r.tokens;
      before = record { tokens = h.tokens; are = h.are; named = refl };
      after = record { tokens = r.tokens; are = r.runs; named = refl };
      mapped = tokens_mapped m w h.tokens (tokens_tree r.tokens) r.becomes
          ∙ ap (λ (u : List ℕ). map (λ k. Some k) u) (tokens_names r.tokens);
    }
