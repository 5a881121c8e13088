-- The places of sections, and sections in their order.
use Rattle.std.proofs.Common.{◌≡◌, ℕ, ◌<◌, ◌⊎◌, inl, inr, nat_eq, false, List, [], ◌∷◌, refl, sym, subst}
use Rattle.wasm_binary.specs.Modules.{IsPlace, type_section, import_section, function_section, table_section, memory_section, tag_section, global_section, export_section, start_section, element_section, data_count_section, code_section, data_section, AreInOrder, no_more, custom, later}
use Rattle.wasm_binary.specs.Steps.Framing.{place_of, place_after}
use Rattle.wasm_binary.proofs.Basics.{branch}

-- a section of this id may stand behind the place `last`
abbrev pub Follows : ℕ → ℕ → Type 0
Follows last id = (id ≡ 0) ⊎ ((place : ℕ) × IsPlace id place × (last < place))

pub place_from : (id place : ℕ) → place_of id ≡ place → (place ≡ 0 → ⊥) → IsPlace id place
unfolding place_of
place_from id place e some =
    let P : ℕ → Type 0 = λ k. IsPlace k place in
    branch P id 1 _ _ place e (λ q. subst (λ p. IsPlace 1 p) q type_section) (λ h.
    branch P id 2 _ _ place h (λ q. subst (λ p. IsPlace 2 p) q import_section) (λ h.
    branch P id 3 _ _ place h (λ q. subst (λ p. IsPlace 3 p) q function_section) (λ h.
    branch P id 4 _ _ place h (λ q. subst (λ p. IsPlace 4 p) q table_section) (λ h.
    branch P id 5 _ _ place h (λ q. subst (λ p. IsPlace 5 p) q memory_section) (λ h.
    branch P id 13 _ _ place h (λ q. subst (λ p. IsPlace 13 p) q tag_section) (λ h.
    branch P id 6 _ _ place h (λ q. subst (λ p. IsPlace 6 p) q global_section) (λ h.
    branch P id 7 _ _ place h (λ q. subst (λ p. IsPlace 7 p) q export_section) (λ h.
    branch P id 8 _ _ place h (λ q. subst (λ p. IsPlace 8 p) q start_section) (λ h.
    branch P id 9 _ _ place h (λ q. subst (λ p. IsPlace 9 p) q element_section) (λ h.
    branch P id 12 _ _ place h (λ q. subst (λ p. IsPlace 12 p) q data_count_section) (λ h.
    branch P id 10 _ _ place h (λ q. subst (λ p. IsPlace 10 p) q code_section) (λ h.
    branch P id 11 _ _ place h (λ q. subst (λ p. IsPlace 11 p) q data_section) (λ h.
    absurd (some (sym h)))))))))))))))

pub place_is : (id place : ℕ) → IsPlace id place → place_of id ≡ place
unfolding place_of
place_is _ _ type_section = refl
place_is _ _ v = refl

pub not_custom : (id place : ℕ) → IsPlace id place → nat_eq id 0 ≡ false
not_custom _ _ type_section = refl
not_custom _ _ v = refl

pub after_is : (last id place : ℕ) → IsPlace id place → place_after last id ≡ place
after_is last id place is = rw (not_custom id place is) (place_is id place is)

pub order_on : (last id : ℕ) (ids : List ℕ) → Follows last id → AreInOrder (place_after last id) ids →
    AreInOrder last (id ∷ ids)
order_on last id ids (inl e) h =
    subst (λ k. AreInOrder (place_after last k) ids → AreInOrder last (k ∷ ids)) (sym e) (λ g.
    custom last ids g) h
order_on last id ids (inr f) h =
    later last id f.0 ids f.1 f.2 (subst (λ p. AreInOrder p ids) (after_is last id f.0 f.1) h)

abbrev pub OrderParts : ℕ → List ℕ → Type 0
OrderParts last [] = Unit {0}
OrderParts last (id ∷ ids) = Follows last id × AreInOrder (place_after last id) ids

pub order_parts : (last : ℕ) (ids : List ℕ) → AreInOrder last ids → OrderParts last ids
order_parts _ _ (no_more last) = tt
order_parts _ _ (custom last others h) = (inl refl, h)
order_parts _ _ (later last id place others is lt h) =
    (inr (place, is, lt), subst (λ p. AreInOrder p others) (sym (after_is last id place is)) h)
