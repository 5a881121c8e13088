use Rattle.std.proofs.Common.{refl}
use Rattle.wasm_module.specs.Sections.{placed}
use Rattle.wasm_module.proofs.ModuleLengths.{one_passed, all_passed}
use Rattle.wasm_module.proofs.UnreadNames.{AreNoUnread, more_types}
use Rattle.wasm_module.proofs.unread_names.find_unread_names.Goals as goal

pub loop-section-preserved : goal.loop-section-preserved
loop-section-preserved c =
    let s = c.in-Some.section in (
      tt,
      tt,
      one_passed (AreNoUnread c.args.count) c.in_ok-found.found c.loop-section.left c.next.new.self
          (placed s.offset s.content_offset s.id s.content.now) c.loop-section.invariant.2
          c.in-Some.ensures.steps (c.if-is_unread.ensures.no refl),
    )

pub returns-clause-more : goal.returns-clause-more
returns-clause-more c = λ more few.
    let found = c.in_ok-found.found in
    more_types c.args.bytes.now c.args.count more
    (record {
      sections = found;
      has = record { is_module = c.in_ok-found.ensures.module; places = c.in_ok-found.ensures.placed };
      none = all_passed (AreNoUnread c.args.count) found c.loop-section.left c.loop-section.invariant.2
          c.in_default.ensures.steps.0;
    }) few
