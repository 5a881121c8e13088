use Rattle.std.proofs.Common.{◌≡◌, ap}
use Rattle.std.specs.Prelude.{IsTrue, ◌↔◌}
use Rattle.walrus_ty.specs.contracts.ty.TypeOrd.TheImpl.Laws as type_laws
use Rattle.walrus_ty.specs.contracts.ty.TypePartialEq.TheImpl as type_equality
use Rattle.walrus_ty.specs.contracts.ty.composite.FunctionTypeOrd.TheImpl.Laws as function_laws
use Rattle.walrus_ty.specs.contracts.ty.composite.StructTypeOrd.TheImpl.Laws as struct_laws
use Rattle.walrus_ty.specs.contracts.ty.composite.ArrayTypeOrd.TheImpl.Laws as array_laws
use Rattle.walrus_ty.specs.contracts.ty.composite.CompositeTypeOrd.TheImpl.Laws as kind_laws
use Rattle.walrus_ty.specs.{Comparison.type_parts, SameTypes.type_eq, SameTypes.IsSameType, Types.ModuleType, Value.heap_cmp, Value.reference_cmp, Value.val_cmp, Value.storage_cmp, Value.field_cmp}
use Rattle.walrus_ty.proofs.Equality.Types.{same_from_eq, eq_from_same}
use Rattle.walrus_ty.proofs.Equality.Values.{heap_same, reference_same, val_same, storage_same, field_same, function_same, struct_same, array_same, kind_same}
use Rattle.walrus_ty.proofs.Orders.Values.{heap_is, reference_is, val_is, storage_is, field_is}
use Rattle.walrus_ty.proofs.Orders.Ties.{heaps_exact, references_exact, vals_exact, storages_exact, fields_exact, by_order, by_equality}
use Rattle.walrus_ty.proofs.laws.comparison.comparisons_agree.Goals as goal

types_same :
    (t u : ModuleType) → (IsTrue ((type_equality.ghosts).eq t u) ↔ (type_parts t ≡ type_parts u))
unfolding type_eq
types_same t u = (
  (λ h. let s : IsSameType t u = same_from_eq t u h in λ i. record {
    kind = s.kind i;
    is_final = s.is_final i;
    supertype = s.supertype i;
    is_for_function_entry = s.is_for_function_entry i;
  }),
  (λ p. eq_from_same t u (record {
    kind = ap (λ q. q.kind) p;
    is_final = ap (λ q. q.is_final) p;
    supertype = ap (λ q. q.supertype) p;
    is_for_function_entry = ap (λ q. q.is_for_function_entry) p;
  })),
)

pub returns : goal.returns
returns c = record {
  heap_types = by_order heap_cmp heap_same heap_is heaps_exact;
  references = by_order reference_cmp reference_same reference_is references_exact;
  vals = by_order val_cmp val_same val_is vals_exact;
  storages = by_order storage_cmp storage_same storage_is storages_exact;
  fields = by_order field_cmp field_same field_is fields_exact;
  functions = by_equality (λ f. f) function_same function_laws.matches_eq-law;
  structs = by_equality (λ s. s) struct_same struct_laws.matches_eq-law;
  arrays = by_equality (λ a. a) array_same array_laws.matches_eq-law;
  kinds = by_equality (λ k. k) kind_same kind_laws.matches_eq-law;
  types = by_equality type_parts types_same type_laws.matches_eq-law;
}
