use Rattle.std.proofs.Common.{subst}
use Rattle.std.specs.Prelude.{IfNone}
use Rattle.wasm_module.specs.UnknownCustoms.{HasNoUnknownCustom}
use Rattle.wasm_module.specs.UnreadNames.{HasNoUnreadNames}
use Rattle.wasm_normalise.proofs.OneCanonicalModule.{count_once}
use Rattle.wasm_normalise.proofs.hazards.find_hazard.Goals as goal

pub returns-in-None-clause-none : goal.returns-in-None-clause-none
returns-in-None-clause-none c =
    let bytes = c.args.bytes.now in
    record {
      none_unknown = subst (λ o. IfNone o (HasNoUnknownCustom c.args.allowed.now bytes)) c.in_default.is
          c.in_ok-offset.ensures.none;
      none_unread = λ n has.
          subst (λ k. HasNoUnreadNames k bytes)
          (count_once bytes c.in_ok-count.count n c.in_ok-count.ensures.found has)
          (subst (λ o. IfNone o (HasNoUnreadNames c.in_ok-count.count bytes)) c.in-None.is
          c.in_ok-offset-2.ensures.none);
    }
