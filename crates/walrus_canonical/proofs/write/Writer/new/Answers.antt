use Rattle.std.proofs.Common.{rules, ◌≡◌, ◌∙◌, ℕ, [], refl, sym, ap, replicate}
use Rattle.walrus_canonical.proofs.Output.WriterStates.{opens_with_nothing}
use Rattle.walrus_canonical.proofs.write.Writer.new.Goals as goal

pub returns : goal.returns
returns c = λ task waits same slots counts. (
    let zeros : c.in_ok-new_index.new_index.items ≡ replicate {A = ℕ} c.args.slot_count 0 = search rules in
    let nothing : c.in_ok-written.written.items ≡ [] = search rules in
    opens_with_nothing task waits _ c.args.classes.items c.args.counts.items same refl refl c.new.ensures
    (zeros ∙ ap (λ (n : ℕ). replicate {A = ℕ} n 0) (sym slots)) refl nothing counts)
