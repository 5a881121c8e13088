use Rattle.std.proofs.Common.{arith, ap, sym, ◌∙◌, option_map}
use Rattle.walrus_sections.specs.FirstError.{IndexUse}
use Rattle.walrus_sections.specs.declared.error.ReadError.{ReadError, TheVariants.BadIndex}
use Rattle.walrus_sections.proofs.FirstError.Search.{bad_from}
use Rattle.walrus_sections.proofs.group_error.bad_entry.Goals as goal

pub returns-in-Some : goal.returns-in-Some
returns-in-Some c =
    let from = bad_from c.args.end c.args.start c.loop-i.i c.args.entries.now c.index-entries-i.result _
    (omega arith) c.index-entries-i.is (sym c.in-Some.is ∙ c.bad_in_entry.ensures) in
    let all = c.loop-i.invariant ∙ from in
    ap (option_map {T = IndexUse} {U = ReadError} (λ n. BadIndex n.entry n.index c.args.end)) (sym all)

pub loop-i-preserved : goal.loop-i-preserved
loop-i-preserved c =
    let from = bad_from c.args.end c.args.start c.loop-i.i c.args.entries.now c.index-entries-i.result _
    (omega arith) c.index-entries-i.is (sym c.in_default.is ∙ c.bad_in_entry.ensures) in
    c.loop-i.invariant ∙ from
