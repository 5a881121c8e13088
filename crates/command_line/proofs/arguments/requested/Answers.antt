use Rattle.std.proofs.Common.{rules, ◌≡◌, ◌∷◌, ◌++◌, [], map, refl, ap, sym, ◌∙◌, inl, inr, codes, subst}
use Rattle.std.proofs.lemmas.List.{map_push, nil_from_length}
use Rattle.std.specs.String.{string_bytes}
use Rattle.std.specs.Vec.Iter.{into_iter_items}
use Rattle.command_line.specs.Arguments.{value_bytes, file_name, IsOneOf, IsName}
use Rattle.command_line.proofs.Requests.{option_taken, value_taken, name_taken, other_asks, IsTaken}
use Rattle.command_line.proofs.arguments.requested.Goals as goal

pub loop-argument-preserved-in-Continue-1 : goal.loop-argument-preserved-in-Continue-1
loop-argument-preserved-in-Continue-1 c =
    option_taken c.loop-argument.invariant (string_bytes c.in-Some.argument)
    (map string_bytes (into_iter_items c.next.new.self)) (map string_bytes c.push.new.self.items)
    (ap (map string_bytes) c.in-Some.ensures.items)
    (subst (IsOneOf c.args.own.now) c.as_str.ensures.value (c.if-is_option.ensures.0 refl))
    (ap (map string_bytes) c.in_ok-push.ensures.items
    ∙ map_push string_bytes c.loop-argument.options.items c.in-Some.argument)

pub returns-in_default-next : goal.returns-in_default-next
returns-in_default-next c = record {
  items = c.loop-argument.invariant.items;
  known = c.loop-argument.invariant.known;
  rest = map string_bytes (into_iter_items c.loop-argument.left);
  split = c.loop-argument.invariant.split;
  asks = (
    string_bytes c.in-Some.argument,
    [],
    ap (map string_bytes) c.in-Some.ensures.items
        ∙ ap (λ k. string_bytes c.in-Some.argument ∷ map string_bytes k) {x = into_iter_items c.next.new.self} {y = []} (nil_from_length (into_iter_items c.next.new.self) (sym c.next.new.self.rest.ok.0 ∙ c.in_default-next.ensures.cases.0)),
    inl (search rules, subst (IsOneOf c.args.with_value.now) c.as_str-else-is_option.ensures.value (c.if-is_option-2.ensures.0 refl), refl),
  );
}

pub loop-argument-preserved-in-Continue-branch-2 :
    goal.loop-argument-preserved-in-Continue-branch-2
loop-argument-preserved-in-Continue-branch-2 c =
    value_taken c.loop-argument.invariant (string_bytes c.in-Some.argument) (string_bytes c.in-Some-next.value)
    (map string_bytes (into_iter_items c.next-then-is_option-2.new.self)) (map value_bytes c.push-then-is_option-2.new.self.items)
    (ap (map string_bytes) (c.in-Some.ensures.items ∙ ap (λ k. c.in-Some.argument ∷ k) c.in-Some-next.ensures.items))
    (search rules)
    (subst (IsOneOf c.args.with_value.now) c.as_str-else-is_option.ensures.value (c.if-is_option-2.ensures.0 refl))
    (ap (map value_bytes) c.in_ok-push-2.ensures.items
    ∙ map_push value_bytes c.loop-argument.values.items record { option = c.in-Some.argument; value = c.in-Some-next.value })

pub loop-argument-preserved : goal.loop-argument-preserved
loop-argument-preserved c =
    name_taken c.loop-argument.invariant (string_bytes c.in-Some.argument)
    (map string_bytes (into_iter_items c.next.new.self)) (map string_bytes c.push-then-is_name.new.self.items)
    (ap (map string_bytes) c.in-Some.ensures.items)
    (search rules) (search rules)
    (subst IsName c.as_str-else-is_option-2.ensures.value (c.if-is_name.ensures.0 refl))
    (ap (map string_bytes) c.in_ok-push-3.ensures.items
    ∙ map_push string_bytes c.loop-argument.names.items c.in-Some.argument)

pub returns-then-eq : goal.returns-then-eq
returns-then-eq c = record {
  items = c.loop-argument.invariant.items;
  known = c.loop-argument.invariant.known;
  rest = map string_bytes (into_iter_items c.loop-argument.left);
  split = c.loop-argument.invariant.split;
  asks = (
    map string_bytes (into_iter_items c.next.new.self),
    inr (ap (map string_bytes) c.in-Some.ensures.items ∙ ap (λ k. k ∷ map string_bytes (into_iter_items c.next.new.self)) (search rules), (search rules, search rules, search rules)),
    c.in_ok-names.ensures ∙ ap (λ k. k ++ map file_name (map string_bytes (into_iter_items c.next.new.self))) c.loop-argument.invariant.named,
    c.loop-argument.invariant.opted,
    c.loop-argument.invariant.valued,
  );
}

pub returns-else-eq : goal.returns-else-eq
returns-else-eq c =
    other_asks c.loop-argument.invariant (string_bytes c.in-Some.argument)
    (map string_bytes (into_iter_items c.next.new.self)) c.without_work.result
    (ap (map string_bytes) c.in-Some.ensures.items) (search rules, search rules, search rules) (search rules) (search rules)
