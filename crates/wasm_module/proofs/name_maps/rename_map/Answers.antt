use Rattle.std.proofs.Common.{◌-◌, length, refl, subst, arith}
use Rattle.wasm_module.specs.Steps.NameSections.{IsFollowing, IsNewMap}
use Rattle.wasm_module.proofs.Taking.{u32_shorter}
use Rattle.wasm_module.proofs.NameMaps.{following_free}
use Rattle.wasm_module.proofs.Rewriting.{error_came}
use Rattle.wasm_module.proofs.TypeMaps.{kept_narrow, count_short, map_stays, map_changes, map_countless, map_unread, map_left_over, least_short}
use Rattle.wasm_module.proofs.WholeTexts.{empty, not_empty}
use Rattle.wasm_module.proofs.name_maps.rename_map.Goals as goal

pub returns-in_default-clause-unread : goal.returns-in_default-clause-unread
returns-in_default-clause-unread c = λ e.
    map_countless (IsFollowing c.args.follows) (length c.args.new_indices.now) c.args.content.now
    c.read_u32.new.input.now c.in_default.ensures

pub overflow_sub-width : goal.overflow_sub-width
overflow_sub-width c =
    u32_shorter c.args.content.now c.in-Some.count c.read_u32.new.input.now c.in-Some.ensures

pub returns-in_err-kept-clause-unread : goal.returns-in_err-kept-clause-unread
returns-in_err-kept-clause-unread c =
    let r = c.from_residual in
    λ e. map_unread (IsFollowing c.args.follows) (length c.args.new_indices.now) c.args.content.now c.in-Some.count
    c.read_u32.new.input.now c.in-Some.ensures (c.in_err-kept.ensures.unread (error_came r.result r.ensures.1 e))

pub returns-then-not-is_empty-clause-unread : goal.returns-then-not-is_empty-clause-unread
returns-then-not-is_empty-clause-unread c = λ e.
    map_left_over (IsFollowing c.args.follows) (following_free c.args.follows) c.args.new_indices.now
    c.args.content.now c.in-Some.count c.read_u32.new.input.now c.take_entries.new.input.now
    c.in_ok-kept.kept.entries c.in-Some.ensures c.in_ok-kept.ensures.taken
    (not_empty c.take_entries.new.input.now c.if-not-is_empty.ensures)

pub returns-then-count-eq0-clause-stays : goal.returns-then-count-eq0-clause-stays
returns-then-count-eq0-clause-stays c =
    map_stays (IsFollowing c.args.follows) c.args.new_indices.now c.args.widths c.args.content.now
    c.in-Some.count c.read_u32.new.input.now c.take_entries.new.input.now c.in_ok-kept.kept.entries
    c.in-Some.ensures c.in_ok-kept.ensures.taken
    (empty c.take_entries.new.input.now c.if-not-is_empty.ensures) (omega (arith, c.if-count-eq0.true))

pub write_map-requires-clause-short : goal.write_map-requires-clause-short
write_map-requires-clause-short c =
    least_short c.args.widths c.least_width.result
    (length c.args.content.now - length c.read_u32.new.input.now) c.least_width.ensures
    (count_short (IsFollowing c.args.follows) c.args.new_indices.now c.args.content.now c.in-Some.count
    c.read_u32.new.input.now c.in-Some.ensures)

pub write_map-requires-clause-narrow : goal.write_map-requires-clause-narrow
write_map-requires-clause-narrow c =
    kept_narrow (IsFollowing c.args.follows) c.args.new_indices.now c.in-Some.count c.in_ok-kept.kept.entries
    c.read_u32.new.input.now c.take_entries.new.input.now c.in_ok-kept.ensures.taken

pub returns-clause-changes : goal.returns-clause-changes
returns-clause-changes c =
    map_changes (IsFollowing c.args.follows) c.args.new_indices.now c.args.widths c.args.content.now
    c.in-Some.count (length c.args.content.now - length c.read_u32.new.input.now) c.read_u32.new.input.now
    c.take_entries.new.input.now c.in_ok-kept.kept.entries c.in_ok-new.new.items c.in-Some.ensures refl
    c.in_ok-kept.ensures.taken (empty c.take_entries.new.input.now c.if-not-is_empty.ensures)
    (λ e. omega (arith, c.if-count-eq0.false, e))
    (subst (λ n. IsNewMap c.args.widths n c.in_ok-kept.kept.entries c.in_ok-new.new.items)
    c.least_width.ensures
    c.in_ok-new.ensures)
