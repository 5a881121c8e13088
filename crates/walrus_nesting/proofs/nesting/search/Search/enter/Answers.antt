use Rattle.std.proofs.Common.{◌∙◌, ap}
use Rattle.std.proofs.lemmas.Result.{on_ok_weaker}
use Rattle.ir_instr.specs.Sequence.{Sequence}
use Rattle.walrus_nesting.specs.contracts.nesting.search.Search.{the_view}
use Rattle.walrus_nesting.specs.declared.nesting.search.Work.TheVariants.{Leave}
use Rattle.walrus_nesting.proofs.Nested.SearchSteps.{Enters, entered_is, pushed_first}
use Rattle.walrus_nesting.proofs.nesting.search.Search.enter.Goals as goal

pub returns : goal.returns
returns c = on_ok_weaker c.push_all.result (λ rest.
    let steps : Enters c.args.func.now.body (the_view c.self.inside) c.args.id c.len.result c.index.result
    c.push.new.self.items c.block.result.now c.as_slice.result.now c.push-2.new.self.items
    c.push_all.new.work.items = record {
      size = c.len.ensures ∙ c.self.inside.path.ok.0;
      place = c.index.ensures;
      longer = c.in_ok-push.ensures.items;
      found = c.block.ensures;
      shown = c.as_slice.ensures.value ∙ ap (λ (s : Sequence). s.instrs) c.behind-func.view_is;
      first = pushed_first c.self.inside.work.items c.push-2.new.self.items (Leave c.args.id)
          c.in_ok-push-2.ensures.items;
      rest = rest;
    } in
    rw (← c.self.view_is) (entered_is c.args.func.now.body (the_view c.self.inside) c.args.id _ _ _ _ _ _ _
    steps)) c.push_all.ensures
