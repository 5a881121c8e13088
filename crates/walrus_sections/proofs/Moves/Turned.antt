-- A swap of neighbouring `Single`s keeps the output, and exchanges two items of the map.
use Rattle.std.proofs.Common.{◌≡◌, ℕ, suc, ◌<◌, List, length, ap, sym, ◌∙◌, inl, inr, arith}
use Rattle.std.specs.List.{swap}
use Rattle.std.proofs.Math.ListN.{set}
use Rattle.std.proofs.lemmas.List.{get_or-set_same, get_or-set_other, length-set, Edits.swap_is, Edits.length-swap}
use Rattle.walrus_ty.specs.Groups.{Section}
use Rattle.walrus_sections.specs.{Section.index_space, Section.IsWellNamed, Moves.exchange, Moves.SwapsNeighbours, Moves.IsRenumberedSwap, NormalForm.image, NormalForm.IsNormalForm}
use Rattle.walrus_sections.proofs.{Sections.Rows.laid_out, NormalForms.SameMap.normal_same, Moves.Exchange.where_is, Moves.Swapped.normal_swapped, Moves.SwappedPlaces.swapped_by_index, Moves.SwappedPlaces.swap_is_move, Moves.WellNamed.swapped_well_named}

-- the map with two items exchanged
image-swap :
    (m : List ℕ) (i k : ℕ) → suc i < length m → k < length m →
    image m (exchange i k) ≡ image (swap m i (suc i)) k
image-swap m i k h g =
    let e = swap_is m i (suc i) 0 (omega arith) h in
    let x = image m (suc i) in let y = image m i in
    let ls = length-set m i x in
    (elim (where_is i k) [
      | inl a ↦ ap (image m) a.1 ∙ (sym (get_or-set_same m i x 0 (omega arith))
          ∙ (sym (get_or-set_other (set m i x) (suc i) i y 0 (λ q. omega arith))
          ∙ (ap (λ j. image (set (set m i x) (suc i) y) j) (sym a.0) ∙ ap (λ l. image l k) e)))
      | inr z ↦ (elim z [
        | inl a ↦ ap (image m) a.1 ∙ (sym (get_or-set_same (set m i x) (suc i) y 0 (omega arith))
            ∙ (ap (λ j. image (set (set m i x) (suc i) y) j) (sym a.0) ∙ ap (λ l. image l k) e))
        | inr o ↦ ap (image m) o.stays ∙ (sym (get_or-set_other m i k x 0 o.not_first)
            ∙ (sym (get_or-set_other (set m i x) (suc i) k y 0 o.not_second) ∙ ap (λ l. image l k) e))
      ])
    ])

pub normal_moved :
    (s r n : Section) (m : List ℕ) (i : ℕ) → IsWellNamed s → SwapsNeighbours s r i →
    IsNormalForm s n m → IsNormalForm r n (swap m i (suc i))
normal_moved s r n m i w x c =
    let sw = swapped_by_index s r i x in
    let wr = swapped_well_named s r i w x in
    let ins = sw.inside in let cnt = sw.count in let len = c.one_each in
    record {
      one_each = length-swap m i (suc i) ∙ (c.one_each ∙ sym sw.count);
      filled = c.filled;
      laws = normal_same (index_space r) (index_space n) (λ k. image m (exchange i k))
          (image (swap m i (suc i))) (laid_out r) wr.below_ends
          (λ k h. image-swap m i k (omega arith) (omega arith))
          (normal_swapped (index_space s) (index_space r) (index_space n) (image m) i (laid_out s)
          w.below_ends sw c.laws);
    }

pub normal_renumbered :
    (s r n : Section) (m : List ℕ) (i : ℕ) → IsWellNamed s → IsRenumberedSwap s r i →
    IsNormalForm s n m → IsNormalForm r n (swap m i (suc i))
normal_renumbered s r n m i w x c = normal_moved s r n m i w (swap_is_move s r i x) c

pub renumbered_well_named :
    (s r : Section) (i : ℕ) → IsWellNamed s → IsRenumberedSwap s r i → IsWellNamed r
renumbered_well_named s r i w x = swapped_well_named s r i w (swap_is_move s r i x)
