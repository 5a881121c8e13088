-- The groups that are to be written, one more at a time.
use Rattle.std.proofs.Common.{◌≡◌, ℕ, arith, List, [], ◌∷◌, ◌++◌, ◌+◌, cond, refl, sym, ap, ◌∙◌, Some, None, Bool}
use Rattle.std.specs.Option.{is_some}
use Rattle.std.proofs.lemmas.List.{map-append}
use Rattle.std.proofs.lemmas.List.Elements.{All-push}
use Rattle.walrus_ty.specs.declared.records.EntryAt.{EntryAt}
use Rattle.walrus_normal_form.specs.declared.order.PendingGroup.{PendingGroup}
use Rattle.walrus_normal_form.specs.declared.slot_group.SlotGroup.{SlotGroup}
use Rattle.walrus_normal_form.specs.Steps.PendingGroups.{ArePending, IsPending, head_at, is_free_at, is_written_at}
use Rattle.walrus_sections.specs.RunStarts.{run_start}
use Rattle.walrus_sections.proofs.Ordering.FilteredPlaces.{kept_more, left_out}

module _ (groups : List SlotGroup) (i : ℕ) (ps : List PendingGroup) (so_far : ArePending groups i ps) where
  abbrev free : ℕ → Bool
  free = is_free_at groups

  abbrev written : ℕ → Bool
  written = is_written_at groups

  pub group_more : (b : Bool) (run s : ℕ) (h : EntryAt) → b ≡ free i → run ≡ run_start free i →
      s ≡ cond b run i → head_at groups i ≡ Some h →
      ArePending groups (i + 1) (ps ++ record { start = s; head = h; place = i } ∷ [])
  group_more b run s h is_free is_run is_start is_head =
      let next : PendingGroup = record { start = s; head = h; place = i } in
      record {
        places = map-append (λ (p : PendingGroup). p.place) ps (next ∷ [])
            ∙ (ap (λ (ks : List ℕ). ks ++ i ∷ []) so_far.places
            ∙ sym (kept_more written i (ap is_some is_head)));
        each = All-push (IsPending groups) ps next so_far.each (record {
          start = is_start
              ∙ (ap (λ (c : Bool). cond c run i) is_free ∙ ap (λ (n : ℕ). cond (free i) n i) is_run);
          head = is_head;
        });
      }

  pub group_left : head_at groups i ≡ None → ArePending groups (i + 1) ps
  group_left is_head = record {
    places = so_far.places ∙ sym (left_out written i (ap is_some is_head));
    each = so_far.each;
  }

pub no_groups : (groups : List SlotGroup) → ArePending groups 0 []
no_groups groups = record { places = refl; each = λ k d lt. absurd (omega (arith, lt)) }
