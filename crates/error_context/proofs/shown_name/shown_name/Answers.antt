use Rattle.std.proofs.Common.{refl}
use Rattle.error_context.specs.ShownNames.{most_shown}
use Rattle.error_context.proofs.ShownNames.{first_bytes}
use Rattle.error_context.proofs.shown_name.shown_name.Goals as goal

pub returns : goal.returns
returns c =
    record {
      whole = refl;
      front = first_bytes c.args.name.now _ c.copy_from_slice.new.self most_shown c.shown_count-count.result
          c.shown_count-count.ensures c.copy_from_slice.ensures.after;
    }
