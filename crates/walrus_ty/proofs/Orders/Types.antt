-- The comparison of types is the order of what they define, and then that of the marks of function
-- entries.
use Rattle.std.proofs.Common.{◌≡◌, Bool, true, false, refl, ap, sym, ◌∙◌}
use Rattle.std.specs.{Prelude.IsTrue, Prelude.◌↔◌, Ordering.ordering_then, Ordering.is_eq}
use Rattle.std.specs.declared.cmp.Ordering.{Ordering, TheVariants.Less, TheVariants.Equal, TheVariants.Greater}
use Rattle.std.proofs.lemmas.Cmp.{tied_itself}
use Rattle.std.specs.contracts.prelude.BoolOrd.TheImpl as bool_order
use Rattle.walrus_ty.specs.contracts.ty.composite.CompositeTypeOrd.TheImpl as kind_order
use Rattle.walrus_ty.specs.contracts.ty.TypeOrd.TheImpl as type_order
use Rattle.walrus_ty.specs.contracts.ty.TypeOrd.TheImpl.Laws as type_laws
use Rattle.walrus_ty.specs.contracts.ty.TypePartialEq.TheImpl as type_equality
use Rattle.walrus_ty.specs.declared.ty.composite.CompositeType.{CompositeType}
use Rattle.walrus_ty.specs.declared.ty.composite.CompositeType.TheVariants as kind
use Rattle.walrus_ty.specs.{Value.bool_cmp, Definition.composite_cmp, Definition.definition_cmp, Types.ModuleType, Types.kind_composite, Types.type_definition}
use Rattle.walrus_ty.proofs.Orders.Values.{bool_is, field_is, supertypes, supertype_is, fields_are, lists_of_vals_are, then_same}
use Rattle.walrus_ty.proofs.{Orders.Records.equal_if_is_eq, Names.Definitions.definitions_total, Names.Definitions.definition_exact, Spelling.Tokens.then_equal}

pub kind_is :
    (c d : CompositeType) → (kind_order.ghosts).cmp c d ≡
    composite_cmp (kind_composite c) (kind_composite d)
kind_is (kind.Function f) (kind.Function g) = lists_of_vals_are f.params f.results g.params g.results
kind_is (kind.Struct s) (kind.Struct t) = fields_are s.fields t.fields
kind_is (kind.Array a) (kind.Array b) = field_is a.field b.field
kind_is c d = refl

then_three :
    (a b c d : Ordering) → ordering_then a (ordering_then b (ordering_then c d)) ≡
    ordering_then (ordering_then a (ordering_then b c)) d
then_three Less b c d = refl
then_three Greater b c d = refl
then_three Equal Less c d = refl
then_three Equal Greater c d = refl
then_three Equal Equal c d = refl

-- the order of types
abbrev pub type_cmp : ModuleType → ModuleType → Ordering
type_cmp = (type_order.ghosts).cmp

pub type_is :
    (t u : ModuleType) → (type_order.ghosts).cmp t u ≡
    ordering_then (definition_cmp (type_definition t) (type_definition u))
    (bool_cmp t.is_for_function_entry u.is_for_function_entry)
type_is t u =
    then_three ((kind_order.ghosts).cmp t.kind u.kind) ((bool_order.ghosts).cmp t.is_final u.is_final)
    (supertypes t.supertype u.supertype) ((bool_order.ghosts).cmp t.is_for_function_entry u.is_for_function_entry)
    ∙ (ap (λ o. ordering_then o ((bool_order.ghosts).cmp t.is_for_function_entry u.is_for_function_entry))
    (then_same _ _ _ _ _ _ (kind_is t.kind u.kind) (bool_is t.is_final u.is_final)
    (supertype_is t.supertype u.supertype))
    ∙ ap (ordering_then (definition_cmp (type_definition t) (type_definition u)))
    (bool_is t.is_for_function_entry u.is_for_function_entry))

marks_equal : (a b : Bool) → bool_cmp a b ≡ Equal → a ≡ b
marks_equal true true h = refl
marks_equal false false h = refl
marks_equal a b h = cc

marks_tied : (a b : Bool) → a ≡ b → bool_cmp a b ≡ Equal
marks_tied true true h = refl
marks_tied false false h = refl
marks_tied a b h = cc

-- types are equal exactly where they define the same and have the same mark
pub type_equal :
    (t u : ModuleType) → (IsTrue ((type_equality.ghosts).eq t u) ↔
    (type_definition t ≡ type_definition u) × (t.is_for_function_entry ≡ u.is_for_function_entry))
type_equal t u =
    let d = definition_cmp (type_definition t) (type_definition u) in
    let m = bool_cmp t.is_for_function_entry u.is_for_function_entry in (
      (λ h. (let e = then_equal d m (sym (type_is t u)
          ∙ equal_if_is_eq ((type_order.ghosts).cmp t u) (sym (type_laws.matches_eq-law t u) ∙ h)) in (
            definition_exact (type_definition t) (type_definition u) e.0,
            marks_equal t.is_for_function_entry u.is_for_function_entry e.1,
          ))),
      (λ p. (let a : d ≡ Equal = ap (definition_cmp (type_definition t)) (sym p.0)
          ∙ tied_itself definitions_total (type_definition t) in
          let b : m ≡ Equal = marks_tied t.is_for_function_entry u.is_for_function_entry p.1 in
          type_laws.matches_eq-law t u ∙ ap is_eq (type_is t u ∙ (ap (λ o. ordering_then o m) a ∙ b)))),
    )
