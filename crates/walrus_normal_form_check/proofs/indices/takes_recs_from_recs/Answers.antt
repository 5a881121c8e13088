use Rattle.std.proofs.Common.{◌≡◌, ℕ, ◌<◌, length, Some, arith, refl}
use Rattle.walrus_sections.specs.Section.{index_space_of_places}
use Rattle.walrus_normal_form_check.proofs.Decisions.{each_more, not_held}
use Rattle.walrus_normal_form_check.proofs.indices.takes_recs_from_recs.Goals as goal

pub returns-then-not-comes_from_rec : goal.returns-then-not-comes_from_rec
returns-then-not-comes_from_rec c = (
  λ e. let k : ⊥ = cc in absurd k,
  λ all.
      absurd (not_held c.comes_from_rec.result c.comes_from_rec.ensures.1 c.if-not-comes_from_rec.true (λ x.
      all c.loop-target.target x c.loop-target-test.true)),
)

pub loop-target-preserved : goal.loop-target-preserved
loop-target-preserved c p x below =
    each_more
    (λ q. (y : ℕ × ℕ) → (index_space_of_places c.args.output.now).rec_position q ≡ Some y → (i : ℕ)
    × (i < length c.args.section.now) × ((index_space_of_places c.args.section.now).rec_position i ≡ Some
    y))
    c.loop-target.target c.comes_from_rec.result (λ q less y. c.loop-target.invariant q y less)
    c.comes_from_rec.ensures.0 c.if-not-comes_from_rec.false p below x

pub returns : goal.returns
returns c = (λ e p x below. c.loop-target.invariant p x (omega arith), λ all. refl)
