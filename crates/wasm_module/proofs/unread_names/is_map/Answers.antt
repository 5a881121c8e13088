use Rattle.std.proofs.Common.{◌∙◌, sym}
use Rattle.wasm_module.specs.Steps.NameSections.{IsFollowing}
use Rattle.wasm_module.proofs.NameMaps.{following_free}
use Rattle.wasm_module.proofs.TypeMaps.{not_whole, whole_map}
use Rattle.wasm_module.proofs.WholeTexts.{not_empty}
use Rattle.wasm_module.specs.NameSections.{IsTypeMap}
use Rattle.wasm_module.proofs.unread_names.is_map.Goals as goal

pub returns-in-Some-clause-no : goal.returns-in-Some-clause-no
returns-in-Some-clause-no c = λ e v.
    not_empty c.skip_map.new.input.now (sym e ∙ c.is_empty.ensures)
    (whole_map (IsFollowing c.args.follows) (following_free c.args.follows) c.args.count c.args.content.now
    c.skip_map.new.input.now c.in-Some.ensures.taken v)

pub returns-in-None-clause-no : goal.returns-in-None-clause-no
returns-in-None-clause-no c = λ _.
    not_whole (IsTypeMap (IsFollowing c.args.follows) c.args.count) c.args.content.now c.in-None.ensures.none
