use Rattle.std.proofs.Common.{◌≡◌, true, false, refl, sym, subst}
use Rattle.std.specs.List.{Any}
use Rattle.wasm_module.specs.UnknownCustoms.{listed, description, is_allowed}
use Rattle.wasm_module.proofs.UnknownSections.{no_known_name, component_known}
use Rattle.wasm_module.proofs.unknown_customs.is_known_name.Goals as goal

pub returns-then-is_listed-clause-yes : goal.returns-then-is_listed-clause-yes
returns-then-is_listed-clause-yes c = λ _. listed c.args.name.now
    (subst (λ u. Any (λ k. k ≡ c.args.name.now) u) c.known_names.ensures (c.if-is_listed.ensures.0 refl))

pub returns-then-is_listed-2-clause-yes : goal.returns-then-is_listed-2-clause-yes
returns-then-is_listed-2-clause-yes c = λ _. is_allowed c.args.name.now (c.if-is_listed-2.ensures.0 refl)

pub returns-then-begins_with-clause-yes : goal.returns-then-begins_with-clause-yes
returns-then-begins_with-clause-yes c = λ _. component_known c.args.allowed.now c.args.name.now
    (c.if-begins_with.ensures.yes refl)

pub returns-in-Some-clause-yes : goal.returns-in-Some-clause-yes
returns-in-Some-clause-yes c = λ _. description c.args.name.now
    (record { kind = c.in-Some.field-0; is_name = c.in-Some.ensures.found })

pub returns-in-None-clause-no : goal.returns-in-None-clause-no
returns-in-None-clause-no c = λ _. no_known_name c.args.allowed.now c.args.name.now
    (λ any. let wrong : false ≡ true = c.if-is_listed.ensures.1
    (subst (λ u. Any (λ k. k ≡ c.args.name.now) u) (sym c.known_names.ensures) any) in
    let k : ⊥ = cc in k)
    (λ any. let wrong : false ≡ true = c.if-is_listed-2.ensures.1 any in
    let k : ⊥ = cc in k)
    (c.if-begins_with.ensures.no refl) (λ d. c.in-None.ensures.none d.kind d.is_name)
