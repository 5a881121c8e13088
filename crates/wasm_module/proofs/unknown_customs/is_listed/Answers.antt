use Rattle.std.proofs.Common.{bytes_eq, map, sym, ◌≡◌, ◌∙◌}
use Rattle.std.specs.List.{list_any}
use Rattle.std.proofs.lemmas.List.Folds.{Any-from_list_any, list_any-from_Any}
use Rattle.std.proofs.lemmas.Slice.Eq.{bytes_eq-Decides}
use Rattle.wasm_module.proofs.UnknownSections.{any_mapped}
use Rattle.wasm_module.proofs.unknown_customs.is_listed.Goals as goal

pub returns : goal.returns
returns c =
    let wanted = c.args.name.now in
    let names = map (λ k. k.now) c.args.names.now in
    let value : c.contains.result ≡ list_any (λ k. bytes_eq k wanted) names =
    c.contains.ensures.value ∙ sym (any_mapped (λ k. k.now) (λ k. bytes_eq k wanted) c.args.names.now) in (
      λ yes. let h = Any-from_list_any (λ k. bytes_eq k wanted) names (sym value ∙ yes) in
          (h.0, h.1, h.2, h.3, (bytes_eq-Decides h.1 wanted).0 h.4),
      λ h. value ∙ list_any-from_Any (λ k. bytes_eq k wanted) names
          (h.0, h.1, h.2, h.3, (bytes_eq-Decides h.1 wanted).1 h.4),
    )
