use Rattle.std.proofs.lemmas.Result.{IfOk-weaker}
use Rattle.walrus_sections.specs.NormalForm.{IsNormal, image}
use Rattle.walrus_sections.specs.Section.{index_space_of_places}
use Rattle.walrus_normal_form_check.proofs.Decisions.{from_false, not_held}
use Rattle.walrus_normal_form_check.proofs.verify.is_normal.Goals as goal

pub returns-then-not-maps_below : goal.returns-then-not-maps_below
returns-then-not-maps_below c = (
  from_false,
  λ laws.
      absurd (not_held c.maps_below.result c.maps_below.ensures.1 c.if-not-maps_below.true laws.below),
)

pub returns-then-not-maps_onto : goal.returns-then-not-maps_onto
returns-then-not-maps_onto c = (
  from_false,
  λ laws.
      absurd (not_held c.maps_onto.result c.maps_onto.ensures.1 c.if-not-maps_onto.true laws.onto),
)

pub returns-then-not-sends_recs_to_recs : goal.returns-then-not-sends_recs_to_recs
returns-then-not-sends_recs_to_recs c = (
  from_false,
  λ laws.
      absurd (not_held c.sends_recs_to_recs.result c.sends_recs_to_recs.ensures.1
      c.if-not-sends_recs_to_recs.true laws.rec_to_rec),
)

pub returns-then-not-takes_recs_from_recs : goal.returns-then-not-takes_recs_from_recs
returns-then-not-takes_recs_from_recs c = (
  from_false,
  λ laws.
      absurd (not_held c.takes_recs_from_recs.result c.takes_recs_from_recs.ensures.1
      c.if-not-takes_recs_from_recs.true laws.rec_from_rec),
)

pub returns-then-not-sends_singles_to_singles : goal.returns-then-not-sends_singles_to_singles
returns-then-not-sends_singles_to_singles c = (
  from_false,
  λ laws. absurd (not_held c.sends_singles_to_singles.result
      c.sends_singles_to_singles.ensures.1 c.if-not-sends_singles_to_singles.true laws.single_to_single),
)

pub returns-then-not-singles_differ : goal.returns-then-not-singles_differ
returns-then-not-singles_differ c = (
  from_false,
  λ laws.
      absurd (not_held c.singles_differ.result c.singles_differ.ensures.1 c.if-not-singles_differ.true
      laws.singles_differ),
)

pub returns-then-not-keeps_selfs : goal.returns-then-not-keeps_selfs
returns-then-not-keeps_selfs c = (
  from_false,
  λ laws.
      absurd (not_held c.keeps_selfs.result c.keeps_selfs.ensures.1 c.if-not-keeps_selfs.true
      laws.selfs_kept),
)

pub returns-then-not-keeps_anchors : goal.returns-then-not-keeps_anchors
returns-then-not-keeps_anchors c = (
  from_false,
  λ laws.
      absurd (not_held c.keeps_anchors.result c.keeps_anchors.ensures.1 c.if-not-keeps_anchors.true
      laws.anchors),
)

pub returns-then-not-orders_free : goal.returns-then-not-orders_free
returns-then-not-orders_free c = (
  from_false,
  λ laws.
      absurd (not_held c.orders_free.result c.orders_free.ensures.1 c.if-not-orders_free.true laws.free),
)

pub returns : goal.returns
returns c =
    IfOk-weaker c.carries_definitions.result _ _
    (λ b tells. (
      λ t. record {
        below = c.maps_below.ensures.0 c.if-not-maps_below.false;
        onto = c.maps_onto.ensures.0 c.if-not-maps_onto.false;
        same = tells.0 t;
        rec_to_rec = c.sends_recs_to_recs.ensures.0 c.if-not-sends_recs_to_recs.false;
        rec_from_rec = c.takes_recs_from_recs.ensures.0 c.if-not-takes_recs_from_recs.false;
        single_to_single = c.sends_singles_to_singles.ensures.0 c.if-not-sends_singles_to_singles.false;
        singles_differ = c.singles_differ.ensures.0 c.if-not-singles_differ.false;
        selfs_kept = c.keeps_selfs.ensures.0 c.if-not-keeps_selfs.false;
        anchors = c.keeps_anchors.ensures.0 c.if-not-keeps_anchors.false;
        free = c.orders_free.ensures.0 c.if-not-orders_free.false;
      },
      λ (laws : IsNormal (index_space_of_places c.args.section.now) (index_space_of_places c.args.output.now)
          (image c.args.map.now)). tells.1 laws.same,
    ))
    c.carries_definitions.ensures
