use Rattle.std.proofs.Common.{◌≡◌, ℕ, length, ap, subst, ◌∙◌, false}
use Rattle.walrus_ty.specs.{Definition.rename, Records.entry_definition, Types.ModuleType, Types.unnamed_type}
use Rattle.walrus_sections.specs.NormalForm.{image}
use Rattle.walrus_types.specs.{ReadResult.type_of_definition, Steps.TableReads.ReadsSingle}
use Rattle.walrus_types.proofs.Reading.ReaderCalls.{sub_type_stored}
use Rattle.walrus_types.proofs.section_reader.read_single.Goals as goal

pub returns-clause-ok : goal.returns-clause-ok
returns-clause-ok c =
    let own : c.new-ty.result ≡ type_of_definition
    (rename (image c.args.ids.now.types) (entry_definition c.args.entry.now))
    (length c.args.types.now.types.slots) =
    c.new-ty.ensures
    ∙ (ap (λ (i : ℕ). unnamed_type c.in_ok-sub.sub.kind c.in_ok-sub.sub.is_final c.in_ok-sub.sub.supertype
    false i) c.next_id-id.ensures
    ∙ sub_type_stored c.in_ok-sub.sub c.args.ids.now.types (entry_definition c.args.entry.now)
    (length c.args.types.now.types.slots) c.in_ok-sub.ensures.renamed) in
    subst (λ (ty : ModuleType). ReadsSingle c.args.types.now c.add_single.new.self ty
    c.in_ok-add_single.field-0) own c.in_ok-add_single.ensures.ok
