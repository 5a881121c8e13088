use Rattle.std.proofs.Common.{◌≡◌, ◌∷◌, ℕ, Some, cond, ap, ◌∙◌}
use Rattle.std.specs.Map.{lookup, keys_of}
use Rattle.std.specs.Map.Iter.{deref_pair}
use Rattle.std.specs.Option.{option_or}
use Rattle.std.proofs.lemmas.Map.Iter.{rest_more}
use Rattle.std.proofs.lemmas.Map.Keys.{IsDistinct-tail}
use Rattle.walrus_arena.proofs.SetLemmas.{next_cloned}
use Rattle.walrus_arena.proofs.arena_set.clone_map.Goals as goal

pub loop-key-preserved : goal.loop-key-preserved
loop-key-preserved g c =
    let eq = g.T.PartialEq.eq in
    let inv = c.loop-key.invariant in
    let k = c.in-Some.key.now in
    let v = c.in-Some.id.now in
    let key = c.in_ok-clone.field-0 in
    let rest = c.next.new.self in
    let split : c.loop-key.key-iterator ≡ (k, v) ∷ rest =
    rest_more deref_pair c.loop-key.key-iterator rest c.next.result (c.in-Some.key, c.in-Some.id)
    c.in-Some.is c.next.ensures.steps in
    let distinct = rw split at inv.distinct in
    let id = c.from_index.ensures ∙ c.place.ensures in
    record {
      keys = c.insert.ensures.hasher ∙ inv.keys;
      distinct = IsDistinct-tail eq k (keys_of rest) distinct;
      same = λ equal q.
          let had = lookup (eq q) c.loop-key.copies.entries in
          let put = c.in_ok-insert.ensures.updates.0 q ∙ ap (λ (n : ℕ). cond (eq key q) (Some n) had) id in
          ap (option_or (lookup (eq q) rest)) put
          ∙ (next_cloned g.met.T.Eq.laws q k key v rest had distinct
          (equal k key c.in_ok-clone.ensures.cases)
          ∙ (rw split at (inv.same equal q)));
    }
