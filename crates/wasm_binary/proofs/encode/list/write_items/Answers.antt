use Rattle.std.proofs.Common.{◌+◌, take, sym, append-nil}
use Rattle.std.proofs.lemmas.Result.{err_from_is_err_and}
use Rattle.wasm_binary.specs.Grammar.{none}
use Rattle.wasm_binary.proofs.Texts.{taken, no_list, more_written, more_items}
use Rattle.wasm_binary.proofs.encode.list.write_items.Goals as goal

pub loop-item-init : goal.loop-item-init
loop-item-init g c = record { appends = sym (append-nil c.args.out.now.items); texts = none }

pub returns-in_err-write-clause-too_many : goal.returns-in_err-write-clause-too_many
returns-in_err-write-clause-too_many g c =
    let p = err_from_is_err_and c.from_residual.result c.from_residual.ensures.1 in
    rw (p.1, p.2) (λ h. no_list g.T.Encode.texts c.args.items.now c.loop-item.item-index c.item-item.result
    c.loop-item-test.true c.item-item.is (c.in_err-write.ensures.too_many h))

pub loop-item-preserved : goal.loop-item-preserved
loop-item-preserved g c =
    let i = c.loop-item.item-index in
    let xs = c.args.items.now in
    let one = taken xs i c.item-item.result c.loop-item-test.true c.item-item.is in
    record {
      appends = more_written g.T.Encode.text c.args.out.now.items c.loop-item.out.items c.write.new.out.items
          (take i xs) (take (i + 1) xs) c.item-item.result one c.loop-item.invariant.appends
          c.in_ok-write.ensures.appends;
      texts = more_items g.T.Encode.texts g.T.Encode.text (take i xs) (take (i + 1) xs) c.item-item.result one
          c.loop-item.invariant.texts c.in_ok-write.ensures.text;
    }
