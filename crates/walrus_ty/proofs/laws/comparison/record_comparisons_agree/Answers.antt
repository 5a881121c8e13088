use Rattle.walrus_ty.specs.contracts.records.CompAtOrd.TheImpl.Laws as comp_laws
use Rattle.walrus_ty.specs.contracts.records.EntryAtOrd.TheImpl.Laws as entry_laws
use Rattle.walrus_ty.specs.Value.{heap_cmp, reference_cmp, val_cmp, storage_cmp, field_cmp}
use Rattle.walrus_ty.proofs.Equality.Values.{heap_same, reference_same, val_same, storage_same, field_same, comp_same, entry_same}
use Rattle.walrus_ty.proofs.Orders.Values.{heap_is, reference_is, val_is, storage_is, field_is}
use Rattle.walrus_ty.proofs.Orders.Ties.{heaps_exact, references_exact, vals_exact, storages_exact, fields_exact, by_order, by_equality}
use Rattle.walrus_ty.proofs.laws.comparison.record_comparisons_agree.Goals as goal

pub returns : goal.returns
returns c = record {
  heap_types = by_order heap_cmp heap_same heap_is heaps_exact;
  references = by_order reference_cmp reference_same reference_is references_exact;
  vals = by_order val_cmp val_same val_is vals_exact;
  storages = by_order storage_cmp storage_same storage_is storages_exact;
  fields = by_order field_cmp field_same field_is fields_exact;
  comps = by_equality (λ c. c) comp_same comp_laws.matches_eq-law;
  entries = by_equality (λ e. e) entry_same entry_laws.matches_eq-law;
}
