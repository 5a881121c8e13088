use Rattle.std.proofs.Common.{bytes_eq, sym, ◌∙◌}
use Rattle.std.proofs.lemmas.List.Folds.{Any-from_list_any, list_any-from_Any}
use Rattle.std.proofs.lemmas.Slice.Eq.{bytes_eq-Decides}
use Rattle.command_line.proofs.arguments.is_option.Goals as goal

pub returns : goal.returns
returns c =
    let wanted = c.args.argument.now in (
      λ yes. let h = Any-from_list_any (λ k. bytes_eq k.now wanted) c.args.own.now
          (sym c.contains.ensures.value ∙ yes) in
          (h.0, h.1, h.2, h.3, (bytes_eq-Decides h.1.now wanted).0 h.4),
      λ h. c.contains.ensures.value ∙ list_any-from_Any (λ k. bytes_eq k.now wanted) c.args.own.now
          (h.0, h.1, h.2, h.3, (bytes_eq-Decides h.1.now wanted).1 h.4),
    )
