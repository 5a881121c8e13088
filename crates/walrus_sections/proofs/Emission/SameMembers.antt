-- Emission looks only at what the members of the groups are.
use Rattle.std.proofs.Common.{◌≡◌, ℕ, ◌∙◌, Bool, List, subst, sym, ap, inl, inr}
use Rattle.std.specs.declared.cmp.Ordering.TheVariants.{Less}
use Rattle.walrus_ty.specs.Definition.{Definition, Names, rename, definition_cmp}
use Rattle.walrus_ty.specs.Groups.{Section}
use Rattle.walrus_sections.specs.SlotMap.{TypeGroup}
use Rattle.walrus_sections.specs.Emission.{TableView, IsMember, IsWritten, WrittenMember, IsFreeGroup, IsInversion, IsWrittenBefore, IsEmission}

module _ (gs : List TypeGroup) where
  abbrev pub AgreesAt : (ℕ → Definition) → (ℕ → Definition) → Type 0
  AgreesAt d f = (g u i : ℕ) → IsMember gs g u i → d i ≡ f i

  abbrev pub Marked : (ℕ → Bool) → (ℕ → Bool) → Type 0
  Marked e f = (g u i : ℕ) → IsMember gs g u i → e i ≡ f i

  -- a table of these groups
  abbrev pub view : (ℕ → Definition) → (ℕ → Bool) → TableView
  view definition is_entry = record { groups = gs; definition = definition; is_entry = is_entry }

  module _ (d f : ℕ → Definition) (e b : ℕ → Bool) where
    pub same_written : Marked e b → (g : ℕ) → IsWritten (view d e) g → IsWritten (view f b) g
    same_written same g w = (w.0, w.1, w.2, sym (same g w.0 w.1 w.2) ∙ w.3)

    abbrev pub same_member : Marked e b → WrittenMember (view d e) → WrittenMember (view f b)
    same_member same x = record {
      group = x.group;
      place = x.place;
      id = x.id;
      is_member = x.is_member;
      is_written = same_written same x.group x.is_written;
    }

    pub same_free : AgreesAt d f → (g : ℕ) → IsFreeGroup (view d e) g → IsFreeGroup (view f b) g
    same_free same g free = record {
      implicit = free.implicit;
      own = λ u i m k names. free.own u i m k (subst (λ (x : Definition). Names x k) (sym (same g u i m))
          names);
    }

    pub same_turned : AgreesAt d f → (g h : ℕ) → IsInversion (view d e) g h → IsInversion (view f b) g h
    same_turned same g h t = record {
      free = λ a low high u i m. same_free same a (t.free a low high u i m);
      less = λ u i v j m n. subst (λ (x : Definition). definition_cmp (f j) x ≡ Less) (same g u i m)
          (subst (λ (x : Definition). definition_cmp x (d i) ≡ Less) (same h v j n) (t.less u i v j m n));
    }

  module _ (d f : ℕ → Definition) (e b : ℕ → Bool) (same : AgreesAt d f) where
    other : AgreesAt f d
    other g u i x = sym (same g u i x)

    pub same_stands : (g h : ℕ) → IsWrittenBefore (view d e) g h → IsWrittenBefore (view f b) g h
    same_stands g h s = elim s [
      | inl x ↦ inl (x.0, λ t. x.1 (same_turned f d b e other g h t))
      | inr x ↦ inr (x.0, same_turned d f e b same h g x.1)
    ]

    pub same_emission : (n : Section) (m : ℕ → ℕ) → Marked e b → IsEmission (view d e) n m →
        IsEmission (view f b) n m
    same_emission n m marked em =
        let back : WrittenMember (view f b) → WrittenMember (view d e) =
        same_member f d b e (λ g u i x. sym (marked g u i x)) in
        record {
          below = λ x. em.below (back x);
          onto = λ p h. (let o = em.onto p h in (same_member d f e b marked o.0, o.1));
          same = λ x. em.same (back x) ∙ ap (rename m) (same x.group x.place x.id x.is_member);
          filled = em.filled;
          single = λ x. em.single (back x);
          rec = λ x. em.rec (back x);
          whole = λ x y. em.whole (back x) (back y);
          within = λ x y. em.within (back x) (back y);
          recs = λ x y. em.recs (back x) (back y);
          stands = λ x y lt not_turned. em.stands (back x) (back y) lt (λ t.
              not_turned (same_turned d f e b same x.group y.group t));
          inversions = λ x y lt t. em.inversions (back x) (back y) lt
              (same_turned f d b e other x.group y.group t);
        }
