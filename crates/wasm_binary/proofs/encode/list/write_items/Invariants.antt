use Rattle.std.proofs.Common.{◌≡◌, ◌++◌, take}
use Rattle.std.specs.List.{flat_map}
use Rattle.wasm_binary.specs.Grammar.{AreItems}
use Rattle.wasm_binary.proofs.encode.list.write_items.Given as goal

abbrev pub invariant-loop-item : goal.invariant-loop-item
invariant-loop-item g l =
    record {
      appends : l.out.items ≡ l.fn.out.items ++ flat_map g.T.Encode.text (take l.item-index l.items);
      texts : AreItems g.T.Encode.texts (flat_map g.T.Encode.text (take l.item-index l.items))
          (take l.item-index l.items);
    }
