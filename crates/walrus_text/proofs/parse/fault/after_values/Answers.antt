use Rattle.walrus_text.specs.Steps.Parts.{all_left}
use Rattle.walrus_text.proofs.parse.fault.after_values.Goals as goal

pub loop-after-init : goal.loop-after-init
loop-after-init c = all_left
