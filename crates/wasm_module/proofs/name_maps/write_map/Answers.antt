use Rattle.std.proofs.Common.{rules, sym}
use Rattle.wasm_module.proofs.TypeMaps.{count_written, entry_written}
use Rattle.wasm_module.proofs.name_maps.write_map.Goals as goal

pub loop-new_index-init : goal.loop-new_index-init
loop-new_index-init c =
    count_written c.args.widths c.args.least c.len.result c.args.kept.now.entries
    c.into_iter-new_index-iterator.result c.new-out.result.items c.push_u32.new.out.items
    (search (
      rules,
      c.into_iter-new_index-iterator.ensures.into_iter_gives,
      c.iter-new_index-items.ensures.rest,
    ))
    c.new-out.ensures.items c.len.ensures.len c.in_ok-push_u32.ensures

pub loop-new_index-preserved : goal.loop-new_index-preserved
loop-new_index-preserved c =
    entry_written c.args.widths c.args.least c.least_width.result c.args.kept.now.entries
    c.loop-new_index.new_index-iterator c.next.new.self c.loop-new_index.out.items
    c.push_u32-in-loop-new_index.new.out.items c.extend_from_slice.new.self.items c.in-Some.new_index.now
    c.entry.inside.index c.entry.inside.width c.entry.inside.follows.now c.in-Some.entry.now
    c.loop-new_index.invariant c.in-Some.ensures.steps (sym c.entry.view_is) c.least_width.ensures
    c.in_ok-push_u32-2.ensures c.in_ok-extend_from_slice.ensures.items
