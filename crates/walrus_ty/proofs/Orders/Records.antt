-- The comparison of section records is the order of what they define.
use Rattle.std.proofs.Common.{◌≡◌, true, refl, ap, sym, ◌∙◌}
use Rattle.std.specs.{Prelude.IsTrue, Prelude.◌↔◌, Ordering.is_eq}
use Rattle.std.specs.declared.cmp.Ordering.{Ordering, TheVariants.Less, TheVariants.Equal, TheVariants.Greater}
use Rattle.std.proofs.lemmas.Cmp.{tied_itself}
use Rattle.walrus_ty.specs.contracts.records.CompAtOrd.TheImpl as comp_order
use Rattle.walrus_ty.specs.contracts.records.EntryAtOrd.TheImpl as entry_order
use Rattle.walrus_ty.specs.contracts.records.EntryAtOrd.TheImpl.Laws as entry_laws
use Rattle.walrus_ty.specs.contracts.records.EntryAtPartialEq.TheImpl as entry_equality
use Rattle.walrus_ty.specs.declared.records.{CompAt.CompAt, EntryAt.EntryAt}
use Rattle.walrus_ty.specs.declared.records.CompAt.TheVariants as comp
use Rattle.walrus_ty.specs.{Definition.composite_cmp, Definition.definition_cmp, Records.comp_composite, Records.entry_definition}
use Rattle.walrus_ty.proofs.Orders.Values.{bool_is, field_is, supertype_is, fields_are, lists_of_vals_are, then_same}
use Rattle.walrus_ty.proofs.Names.Definitions.{definitions_total, definition_exact}

pub comp_is :
    (c d : CompAt) → (comp_order.ghosts).cmp c d ≡
    composite_cmp (comp_composite c) (comp_composite d)
comp_is (comp.Function ps rs) (comp.Function qs ss) = lists_of_vals_are ps rs qs ss
comp_is (comp.Struct fs) (comp.Struct gs) = fields_are fs gs
comp_is (comp.Array f) (comp.Array g) = field_is f g
comp_is c d = refl

pub entry_is :
    (d e : EntryAt) → (entry_order.ghosts).cmp d e ≡
    definition_cmp (entry_definition d) (entry_definition e)
entry_is d e = then_same _ _ _ _ _ _ (comp_is d.comp e.comp) (bool_is d.is_final e.is_final)
    (supertype_is d.supertype e.supertype)

pub equal_if_is_eq : (o : Ordering) → is_eq o ≡ true → o ≡ Equal
equal_if_is_eq Less h = cc
equal_if_is_eq Equal h = refl
equal_if_is_eq Greater h = cc

-- records are equal exactly where they define the same
pub entry_equal :
    (d e : EntryAt) → (IsTrue ((entry_equality.ghosts).eq d e) ↔
    (entry_definition d ≡ entry_definition e))
entry_equal d e = (
  (λ h. definition_exact (entry_definition d) (entry_definition e) (sym (entry_is d e)
      ∙ equal_if_is_eq ((entry_order.ghosts).cmp d e) (sym (entry_laws.matches_eq-law d e) ∙ h))),
  (λ p. entry_laws.matches_eq-law d e ∙ ap is_eq (entry_is d e
      ∙ (ap (definition_cmp (entry_definition d)) (sym p)
      ∙ tied_itself definitions_total (entry_definition d)))),
)
