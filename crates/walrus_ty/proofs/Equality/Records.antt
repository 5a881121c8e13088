-- `==` of section records is sameness.
use Rattle.std.proofs.Common.{◌≡◌, Bool, true, ◌&&◌, List, [], ◌∷◌, refl, ap, sym, ◌∙◌}
use Rattle.std.specs.{Prelude.IsTrue, Prelude.◌↔◌, Cmp.Lexicographic.pointwise}
use Rattle.walrus_ty.specs.contracts.records.EntryAtPartialEq.TheImpl as entry_equality
use Rattle.walrus_ty.specs.contracts.records.GroupAtPartialEq.TheImpl as group_equality
use Rattle.walrus_ty.specs.declared.records.{EntryAt.EntryAt, GroupAt.GroupAt}
use Rattle.walrus_ty.specs.declared.records.GroupAt.TheVariants as group
use Rattle.walrus_ty.specs.Records.{section_of}
use Rattle.walrus_ty.proofs.{Equality.Contents.same_entry, Equality.Contents.same_section, Orders.Records.entry_equal, Basics.and_left, Basics.and_right}

pub pointwise_exact :
    {A : Type 0} (E : A → A → Bool) → ((x y : A) → E x y ≡ true → x ≡ y) → (xs ys : List A) →
    pointwise E xs ys ≡ true → xs ≡ ys
pointwise_exact E e [] [] h = refl
pointwise_exact E e [] (y ∷ ys) h = cc
pointwise_exact E e (x ∷ xs) [] h = cc
pointwise_exact E e (x ∷ xs) (y ∷ ys) h = let same : x ≡ y = e x y (and_left (E x y) (pointwise E xs ys) h) in
    let rest : xs ≡ ys = pointwise_exact E e xs ys (and_right (E x y) (pointwise E xs ys) h) in cc

pointwise_same :
    {A : Type 0} (E : A → A → Bool) → ((x : A) → E x x ≡ true) → (xs : List A) →
    pointwise E xs xs ≡ true
pointwise_same E r [] = refl
pointwise_same E r (x ∷ xs) = ap (λ b. b && pointwise E xs xs) (r x) ∙ pointwise_same E r xs

pub entry_exact : (d e : EntryAt) → (entry_equality.ghosts).eq d e ≡ true → d ≡ e
entry_exact d e h = same_entry d e ((entry_equal d e).0 h)

pub entry_itself : (e : EntryAt) → (entry_equality.ghosts).eq e e ≡ true
entry_itself e = (entry_equal e e).1 refl

pub group_exact : (g h : GroupAt) → (group_equality.ghosts).eq g h ≡ true → g ≡ h
group_exact (group.Single d) (group.Single e) h = ap group.Single (entry_exact d e h)
group_exact (group.Rec ds) (group.Rec es) h =
    ap group.Rec (pointwise_exact (entry_equality.ghosts).eq entry_exact ds es h)
group_exact (group.Single d) (group.Rec es) h = cc
group_exact (group.Rec ds) (group.Single e) h = cc

pub group_itself : (g : GroupAt) → (group_equality.ghosts).eq g g ≡ true
group_itself (group.Single e) = entry_itself e
group_itself (group.Rec es) = pointwise_same (entry_equality.ghosts).eq entry_itself es

-- lists of records are equal exactly where their contents are the same
pub records_equal :
    (gs hs : List GroupAt) (r : Bool) → r ≡ pointwise (group_equality.ghosts).eq gs hs →
    (IsTrue r ↔ (section_of gs ≡ section_of hs))
records_equal gs hs r is = (
  (λ h. ap section_of (pointwise_exact (group_equality.ghosts).eq group_exact gs hs (sym is ∙ h))),
  (λ p. is ∙ (ap (pointwise (group_equality.ghosts).eq gs) (sym (same_section gs hs p))
      ∙ pointwise_same (group_equality.ghosts).eq group_itself gs)),
)
