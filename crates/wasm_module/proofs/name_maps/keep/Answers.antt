use Rattle.std.proofs.Common.{None, Some, is_some, sym, ap, arith}
use Rattle.wasm_module.specs.NameSections.{TypeEntry}
use Rattle.wasm_module.proofs.KeptEntries.{keep_first, keep_new}
use Rattle.wasm_module.proofs.name_maps.keep.Goals.{in-Some+else-first-entry, in_default}
use Rattle.wasm_module.proofs.name_maps.keep.Goals as goal

pub returns-then-first-entry : goal.returns-then-first-entry
returns-then-first-entry c =
    keep_first c.args.new_index c.args.entry c.args.kept.now c.args.kept.now c.in-Some.first.now
    (sym c.in-Some.ensures.value) (omega (
      arith,
      ap (λ (u : TypeEntry). u.index) c.first.view_is,
      ap (λ (u : TypeEntry). u.index) c.entry.view_is,
      c.if-first-entry.true,
    ))

pub returns : goal.returns
returns c =
    let insert = c.in_ok-insert.ensures in
    elim c.match-get.branch [
      | in-Some+else-first-entry w ↦
          keep_new c.args.new_index c.args.entry c.args.kept.now c.insert.new.self (Some w.in-Some.first.now)
          (is_some c.in_ok-insert.field-0) (sym w.in-Some.ensures.value)
          (omega (
            arith,
            ap (λ (u : TypeEntry). u.index) w.first.view_is,
            ap (λ (u : TypeEntry). u.index) c.entry.view_is,
            w.if-first-entry.false,
          )) insert.was_ordered
          insert.ordered insert.updates.0 insert.len
      | in_default w ↦
          keep_new c.args.new_index c.args.entry c.args.kept.now c.insert.new.self None
          (is_some c.in_ok-insert.field-0) (sym w.in_default.ensures.value) tt insert.was_ordered
          insert.ordered
          insert.updates.0 insert.len
    ]
