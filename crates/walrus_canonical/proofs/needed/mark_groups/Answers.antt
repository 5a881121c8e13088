use Rattle.std.proofs.Common.{◌≡◌, ℕ, List, ◌++◌, length, ap, ◌∙◌}
use Rattle.std.proofs.lemmas.Iterator.Adapters.{YieldsList-from_rev_slice}
use Rattle.std.proofs.lemmas.Iterator.Consumers.{YieldsList-turn, YieldsList-end}
use Rattle.std.specs.List.{flat_map}
use Rattle.walrus_ty.specs.Definition.{names_of}
use Rattle.walrus_ty.specs.Records.{entry_definition, section_of}
use Rattle.walrus_canonical.proofs.Needs.TurnsBack.{turn_back, all_left, none_left_to_visit, next_left, start_of}
use Rattle.walrus_canonical.proofs.Needs.NeedsMarked.{none_marked_yet, all_marked, none_in_group, group_turn, found_in, none_in}
use Rattle.walrus_canonical.proofs.needed.mark_groups.Goals as goal

pub loop-group-init : goal.loop-group-init
loop-group-init c =
    let long : c.len-end.result ≡ length c.args.needed.now.items = cc in (
      long ∙ (c.requires.one_each ∙ all_left c.args.groups.now),
      λ roots h. rw long (none_marked_yet (section_of c.args.groups.now) roots _ h),
    )

pub loop-group-preserved-in_ok-push_names : goal.loop-group-preserved-in_ok-push_names
loop-group-preserved-in_ok-push_names c =
    let n = length c.loop-group.yielded in
    let start = c.saturating_sub-start.result in
    let end = c.loop-group.end in
    let at = YieldsList-turn (YieldsList-from_rev_slice c.args.groups.now cc) c.loop-group.yielded _
    c.loop-group.yielded_by _ _ _ c.in-Some.is c.next.ensures.steps in
    let turn = turn_back c.args.groups.now n start end c.in-Some.group.now at.0 at.1
    c.loop-group.invariant.0
    (start_of end start c.entries_of-entries.result.now _ c.entries_of-entries.ensures
    c.saturating_sub-start.ensures) in (
      turn.left ∙ next_left c.args.groups.now c.loop-group.yielded c.in-Some.group,
      λ roots h. group_turn
          c.args.groups.now roots n start end c.in-Some.group.now c.entries_of-entries.result.now
          c.as_slice-then-has_needed.result.now _ _ _ c.requires.well_named turn c.entries_of-entries.ensures
          (c.as_slice-then-has_needed.ensures.value ∙ (c.in_ok-push_names.ensures
          ∙ ap (λ (ks : List ℕ). ks ++ flat_map (λ e. names_of (entry_definition e))
          c.entries_of-entries.result.now)
          c.clear.ensures.items))
          (c.loop-group.invariant.1 roots h)
          (found_in start end _ _ c.as_slice.ensures.value (c.has_needed.ensures.found c.if-has_needed.true))
          c.mark_group.ensures c.mark_names.ensures,
    )

pub loop-group-preserved : goal.loop-group-preserved
loop-group-preserved c =
    let n = length c.loop-group.yielded in
    let start = c.saturating_sub-start.result in
    let end = c.loop-group.end in
    let at = YieldsList-turn (YieldsList-from_rev_slice c.args.groups.now cc) c.loop-group.yielded _
    c.loop-group.yielded_by _ _ _ c.in-Some.is c.next.ensures.steps in
    let turn = turn_back c.args.groups.now n start end c.in-Some.group.now at.0 at.1
    c.loop-group.invariant.0
    (start_of end start c.entries_of-entries.result.now _ c.entries_of-entries.ensures
    c.saturating_sub-start.ensures) in (
      turn.left ∙ next_left c.args.groups.now c.loop-group.yielded c.in-Some.group,
      λ roots h.
          none_in_group (section_of c.args.groups.now) roots start end _ (c.loop-group.invariant.1 roots h)
          (none_in start end _ _ c.as_slice.ensures.value (c.has_needed.ensures.none c.if-has_needed.false)),
    )

pub returns : goal.returns
returns c roots h =
    let end = YieldsList-end (YieldsList-from_rev_slice c.args.groups.now cc) c.loop-group.yielded _
    c.loop-group.yielded_by _ _ c.in-None.is c.next.ensures.steps in
    let none = c.loop-group.invariant.0
    ∙ none_left_to_visit c.args.groups.now (length c.loop-group.yielded) end.1 in
    all_marked (section_of c.args.groups.now) roots _ (rw none at c.loop-group.invariant.1 roots h)
