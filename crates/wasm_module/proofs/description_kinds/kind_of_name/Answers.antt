use Rattle.std.proofs.Common.{refl}
use Rattle.wasm_module.specs.Customs.{external_debug_info, source_mapping_url, linking, signature}
use Rattle.wasm_module.proofs.DescriptionNames.{named, debug_name, code_metadata_name, relocation_name, no_name}
use Rattle.wasm_module.proofs.description_kinds.kind_of_name.Goals as goal

pub returns-then-is_name-clause-found : goal.returns-then-is_name-clause-found
returns-then-is_name-clause-found c = named _ c.args.name.now _ (c.if-is_name.ensures.yes refl)
    external_debug_info

pub returns-then-begins_with-clause-found : goal.returns-then-begins_with-clause-found
returns-then-begins_with-clause-found c = debug_name c.args.name.now (c.if-begins_with.ensures.yes refl)

pub returns-then-begins_with-2-clause-found : goal.returns-then-begins_with-2-clause-found
returns-then-begins_with-2-clause-found c = code_metadata_name c.args.name.now
    (c.if-begins_with-2.ensures.yes refl)

pub returns-then-is_name-2-clause-found : goal.returns-then-is_name-2-clause-found
returns-then-is_name-2-clause-found c = named _ c.args.name.now _ (c.if-is_name-2.ensures.yes refl)
    source_mapping_url

pub returns-then-is_name-3-clause-found : goal.returns-then-is_name-3-clause-found
returns-then-is_name-3-clause-found c = named _ c.args.name.now _ (c.if-is_name-3.ensures.yes refl) linking

pub returns-then-begins_with-3-clause-found : goal.returns-then-begins_with-3-clause-found
returns-then-begins_with-3-clause-found c = relocation_name c.args.name.now
    (c.if-begins_with-3.ensures.yes refl)

pub returns-then-is_name-4-clause-found : goal.returns-then-is_name-4-clause-found
returns-then-is_name-4-clause-found c = named _ c.args.name.now _ (c.if-is_name-4.ensures.yes refl) signature

pub returns-clause-none : goal.returns-clause-none
returns-clause-none c =
    no_name c.args.name.now (c.if-is_name.ensures.no refl) (c.if-begins_with.ensures.no refl)
    (c.if-begins_with-2.ensures.no refl) (c.if-is_name-2.ensures.no refl) (c.if-is_name-3.ensures.no refl)
    (c.if-begins_with-3.ensures.no refl) (c.if-is_name-4.ensures.no refl)
