use Rattle.std.proofs.Common.{arith, refl}
use Rattle.walrus_sections.specs.NormalForm.{IsAnchor, image}
use Rattle.walrus_sections.specs.Section.{index_space_of_places}
use Rattle.walrus_normal_form_check.proofs.Decisions.{none_more}
use Rattle.walrus_normal_form_check.proofs.anchors.are_free.Goals as goal

pub returns-then-is_anchor : goal.returns-then-is_anchor
returns-then-is_anchor c = (
  λ e. let k : ⊥ = cc in absurd k,
  λ free.
      absurd (free c.loop-index.index (omega arith) (omega arith)
      (c.is_anchor.ensures.0 c.if-is_anchor.true)),
)

pub loop-index-preserved : goal.loop-index-preserved
loop-index-preserved c = none_more (IsAnchor (index_space_of_places c.args.section.now)
    (image c.args.map.now)) c.args.first c.loop-index.index c.is_anchor.result c.loop-index.invariant
    c.is_anchor.ensures.1 c.if-is_anchor.false

pub returns : goal.returns
returns c = (λ e a low high. c.loop-index.invariant a low (omega arith), λ free. refl)
