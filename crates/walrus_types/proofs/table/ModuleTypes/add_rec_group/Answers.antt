use Rattle.std.proofs.Common.{◌∙◌, sym, arith, rules}
use Rattle.walrus_types.proofs.Tables.NewGroup.{count_parts}
use Rattle.walrus_types.proofs.table.ModuleTypes.add_rec_group.Goals as goal

pub returns-then-len-count-clause-count : goal.returns-then-len-count-clause-count
returns-then-len-count-clause-count g c = λ wanted got same.
    let parts = count_parts _ _ _ _ same in (
      sym parts.0,
      λ e. absurd (omega (
        arith,
        e,
        parts.1,
        c.len.ensures,
        c.len-then-len-count.ensures,
        c.if-len-count.true,
      )),
      (
        c.in_ok-members.members,
        (c.as_slice.result, search rules, c.as_slice.ensures.value ∙ c.in_ok-ids.ensures),
        omega (arith, parts.1, c.len-then-len-count.ensures, c.in_ok-members.members.ok),
      ),
    )

pub returns-clause-ok : goal.returns-clause-ok
returns-clause-ok g c = (
  c.in_ok-members.members,
  (c.as_slice.result, search rules, c.as_slice.ensures.value ∙ c.in_ok-ids.ensures),
  (
    omega (arith, c.len.ensures, c.if-len-count.false, c.in_ok-members.members.ok),
    c.in_ok-place_group.ensures.ok,
  ),
)
