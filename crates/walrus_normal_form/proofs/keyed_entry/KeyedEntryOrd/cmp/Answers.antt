use Rattle.std.proofs.Common.{◌≡◌, ◌∙◌, ap, sym, refl, ℕ}
use Rattle.std.specs.Ordering.{nat_cmp}
use Rattle.std.specs.declared.cmp.Ordering.{Ordering}
use Rattle.walrus_ty.specs.declared.records.EntryAt.{EntryAt}
use Rattle.walrus_ty.specs.Records.{comp_composite, entry_definition}
use Rattle.walrus_ty.proofs.Orders.Records.{entry_is}
use Rattle.walrus_normal_form.specs.SortKeys.{SortKey, composite_sort_key}
use Rattle.walrus_normal_form.specs.Steps.KeyNumbers.{AreBytes, number_of}
use Rattle.walrus_normal_form.proofs.Ordering.KeyNumbers.{numbers_are}
use Rattle.walrus_normal_form.proofs.Ordering.SortKeys.{greater_by_key, less_by_key, tuple_cmp}
use Rattle.walrus_normal_form.proofs.keyed_entry.KeyedEntryOrd.cmp.Goals as goal

abbrev key_of : EntryAt → SortKey
key_of e = composite_sort_key (comp_composite e.comp)

compared :
    (d e x y : EntryAt) (m n : ℕ) (o : Ordering) → d ≡ x → e ≡ y → m ≡ number_of (key_of d) →
    n ≡ number_of (key_of e) → AreBytes (key_of d) → AreBytes (key_of e) → o ≡ nat_cmp m n →
    o ≡ tuple_cmp (key_of x) (key_of y)
compared d e x y m n o p q a b small small' is = is ∙ (ap (λ k. nat_cmp k n) a
    ∙ (ap (nat_cmp (number_of (key_of d))) b ∙ (numbers_are (key_of d) (key_of e) small small'
    ∙ (ap (λ (z : EntryAt). tuple_cmp (key_of z) (key_of e)) p
    ∙ ap (λ (z : EntryAt). tuple_cmp (key_of x) (key_of z)) q))))

pub returns-in-Less : goal.returns-in-Less
returns-in-Less c =
    let d = c.args.self.now in
    let e = c.args.other.now in
    less_by_key (key_of d) (key_of e) (entry_definition d) (entry_definition e) c.cmp.result refl refl
    (compared _ _ d e _ _ c.cmp.result c.self.view_is c.other.view_is c.self.invariant.0 c.other.invariant.0
    c.self.invariant.1 c.other.invariant.1 c.cmp.ensures) c.in-Less.is ∙ sym (entry_is d e)

pub returns-in-Greater : goal.returns-in-Greater
returns-in-Greater c =
    let d = c.args.self.now in
    let e = c.args.other.now in
    greater_by_key (key_of d) (key_of e) (entry_definition d) (entry_definition e) c.cmp.result refl refl
    (compared _ _ d e _ _ c.cmp.result c.self.view_is c.other.view_is c.self.invariant.0 c.other.invariant.0
    c.self.invariant.1 c.other.invariant.1 c.cmp.ensures) c.in-Greater.is ∙ sym (entry_is d e)
