-- The visitor that renames types maps fields.
use Rattle.std.proofs.Common.{◌≡◌, ◌∙◌, ℕ, List, refl, sym, subst}
use Rattle.walrus_ir.specs.Calls.{Full, StepRelation}
use Rattle.walrus_functions.specs.Body.{Body, sequence}
use Rattle.walrus_functions.specs.Nesting.{IsReachable}
use Rattle.walrus_traversals_mut.specs.Counting.{IsFunction}
use Rattle.walrus_traversals_mut.specs.FieldMaps.{MapsFields, IsMapped}
use Rattle.walrus_traversals_mut.specs.Premises.{Keeps, KeepsNesting, HasSteps}
use Rattle.walrus_traversals_mut.specs.Renaming.{rename_at, rename_sequence}
use Rattle.walrus_traversals_mut.specs.Unfolding.{Unfolds, IsTree}
use Rattle.walrus_traversals_mut.specs.Walks.{Walks}
use Rattle.walrus_traversals_mut.proofs.Mapping.{maps_keep}
use Rattle.walrus_traversals_mut.proofs.Mapped.{walk_maps, once_mapped, others_kept}

-- the step of the visitor
abbrev renames : StepRelation (List ℕ)
renames hook v x w y = (w ≡ v) × (y ≡ rename_at v hook x)

renames_by_map : (names : List ℕ) → MapsFields renames names (rename_at names)
renames_by_map names = record {
  maps = λ hook x w y h. h;
  starts = λ x. refl;
  ends = λ x. refl;
  instrs = λ x. refl;
  seq_ids = λ id. refl;
}

-- the premises of the laws of walks
pub renames_has_steps : HasSteps renames
renames_has_steps hook v x = (v, rename_at v hook x, (refl, refl))

pub renames_is_function : IsFunction renames
renames_is_function hook v x w y u z h k = (h.0 ∙ sym k.0, h.1 ∙ sym k.1)

pub renames_keeps_nesting : KeepsNesting renames
renames_keeps_nesting hook v x w y h =
    subst (Keeps hook x) (sym h.1) (maps_keep renames v (rename_at v) (renames_by_map v) hook x)

module _ (names : List ℕ) (s : Body) (t : List ℕ × Body) (start : ℕ)
    (w : Walks renames (names, s) start Full t) where
  pub names_kept : t.0 ≡ names
  names_kept = (walk_maps renames names (rename_at names) (renames_by_map names) (names, s) t start refl w).2

  pub body_renamed : (visits : List ℕ) × Unfolds s start visits × IsMapped (rename_at names) visits s t.1
  body_renamed =
      let r = walk_maps renames names (rename_at names) (renames_by_map names) (names, s) t start refl w in
      (r.0, r.1, r.3)

  pub rename_once : IsTree s start → (id : ℕ) → IsReachable s start id →
      sequence t.1 id ≡ rename_sequence names (sequence s id)
  rename_once = once_mapped (rename_at names) s t.1 start body_renamed.0 body_renamed.1 body_renamed.2

  pub others_not_renamed : (id : ℕ) → (IsReachable s start id → ⊥) → sequence t.1 id ≡ sequence s id
  others_not_renamed = others_kept (rename_at names) s t.1 start body_renamed.0 body_renamed.1 body_renamed.2
