use Rattle.std.proofs.Common.{ℕ, List, subst}
use Rattle.walrus_ty.specs.Types.{ModuleType}
use Rattle.walrus_types.specs.Steps.Finding.{IsWanted}
use Rattle.walrus_types.proofs.Tables.Search.{HasPassed, reached, passed_all, some_is, not_both}
use Rattle.walrus_types.proofs.table.ModuleTypes.first.Goals as goal

pub returns-then-is_wanted : goal.returns-then-is_wanted
returns-then-is_wanted c =
    let r = reached (IsWanted c.args.wanted.now) c.args.self.now.types.slots c.loop-item.left
    c.in-Some.item.0 c.in-Some.item.1.now c.next.new.self c.loop-item.invariant.passed
    c.in-Some.ensures.steps in (
      some_is (IsWanted c.args.wanted.now) _ _ r.value (c.is_wanted.ensures.0 c.if-is_wanted.true),
      r.none,
    )

pub loop-item-preserved : goal.loop-item-preserved
loop-item-preserved c =
    let r = reached (IsWanted c.args.wanted.now) c.args.self.now.types.slots c.loop-item.left
    c.in-Some.item.0 c.in-Some.item.1.now c.next.new.self c.loop-item.invariant.passed
    c.in-Some.ensures.steps in
    record {
      can_next = tt;
      finite = tt;
      passed = r.pass (λ h. not_both c.is_wanted.result (c.is_wanted.ensures.1 h) c.if-is_wanted.false);
    }

pub returns : goal.returns
returns c = passed_all (IsWanted c.args.wanted.now) c.args.self.now.types.slots
    (subst (λ (left : List (ℕ × ModuleType)). HasPassed (IsWanted c.args.wanted.now)
    c.args.self.now.types.slots left) c.in_default.ensures.steps.0 c.loop-item.invariant.passed)
