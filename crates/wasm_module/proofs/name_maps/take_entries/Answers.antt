use Rattle.std.proofs.Common.{◌≡◌, Some, None, ap, subst}
use Rattle.wasm_module.specs.NameSections.{TypeEntry}
use Rattle.wasm_module.specs.Renaming.{new_index}
use Rattle.wasm_module.specs.Steps.NameSections.{IsFollowing}
use Rattle.wasm_module.proofs.NameMaps.{following_free}
use Rattle.wasm_module.proofs.TypeMaps.{entries_begun, entries_on, entries_passed, entries_unread}
use Rattle.wasm_module.proofs.name_maps.take_entries.Goals.{in-Some-new_indices+in_ok-keep, in_default-new_indices}
use Rattle.wasm_module.proofs.name_maps.take_entries.Goals as goal

pub loop-init : goal.loop-init
loop-init c =
    entries_begun (IsFollowing c.args.follows) c.args.new_indices.now c.args.input.now.now
    c.new-kept.result.entries c.new-kept.ensures.empty

pub returns-in_default-clause-unread : goal.returns-in_default-clause-unread
returns-in_default-clause-unread c = λ e.
    entries_unread (IsFollowing c.args.follows) c.args.new_indices.now (following_free c.args.follows)
    c.args.count c.loop.counter c.loop.kept.entries c.args.input.now.now c.loop.input.now c.loop.invariant
    c.loop-test.true c.in_default.ensures.none

pub loop-preserved : goal.loop-preserved
loop-preserved c =
    let same = ap (λ (e : TypeEntry). e.index) c.entry.view_is in
    elim c.match-new_indices-entry.branch [
      | in-Some-new_indices+in_ok-keep w ↦
          rw w.kept-is (entries_on (IsFollowing c.args.follows) c.args.new_indices.now c.loop.counter
          c.loop.kept.entries w.keep.new.kept.entries c.args.input.now.now c.loop.input.now
          c.take_entry.new.input.now w.in-Some-new_indices.new_index c.in-Some.entry c.loop.invariant
          c.in-Some.ensures.taken
          (subst (λ k. new_index c.args.new_indices.now k ≡ Some w.in-Some-new_indices.new_index) same
          w.in-Some-new_indices.is)
          w.in_ok-keep.ensures)
      | in_default-new_indices w ↦
          rw w.kept-is (entries_passed (IsFollowing c.args.follows) c.args.new_indices.now c.loop.counter
          c.loop.kept.entries c.args.input.now.now c.loop.input.now c.take_entry.new.input.now
          c.in-Some.entry c.loop.invariant c.in-Some.ensures.taken
          (subst (λ k. new_index c.args.new_indices.now k ≡ None) same w.in_default-new_indices.is))
    ]
