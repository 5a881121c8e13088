-- The contents of section records tell the records.
use Rattle.std.proofs.Common.{◌≡◌, List, [], ◌∷◌, refl, ap, sym, ◌∙◌, map}
use Rattle.walrus_ty.specs.declared.records.{CompAt.CompAt, EntryAt.EntryAt, GroupAt.GroupAt}
use Rattle.walrus_ty.specs.declared.records.CompAt.TheVariants as comp
use Rattle.walrus_ty.specs.declared.records.GroupAt.TheVariants as group
use Rattle.walrus_ty.specs.Definition.{Composite, Function, Struct, Array, Definition}
use Rattle.walrus_ty.specs.Groups.{Group, Single, Rec}
use Rattle.walrus_ty.specs.Records.{comp_composite, entry_definition, group_of, section_of}

comp_of : Composite → CompAt
comp_of (Function ps rs) = comp.Function ps rs
comp_of (Struct fs) = comp.Struct fs
comp_of (Array f) = comp.Array f

comp_back : (c : CompAt) → comp_of (comp_composite c) ≡ c
unfolding comp_of
comp_back (comp.Function ps rs) = refl
comp_back (comp.Struct fs) = refl
comp_back (comp.Array f) = refl

entry_of : Definition → EntryAt
entry_of d = record { comp = comp_of d.composite; is_final = d.is_final; supertype = d.supertype }

entry_back : (e : EntryAt) → entry_of (entry_definition e) ≡ e
unfolding entry_of
entry_back e = ap (λ (c : CompAt). record { comp = c; is_final = e.is_final; supertype = e.supertype })
    (comp_back e.comp)

entries_back : (es : List EntryAt) → map entry_of (map entry_definition es) ≡ es
entries_back [] = refl
entries_back (e ∷ es) = ap (λ (x : EntryAt). x ∷ map entry_of (map entry_definition es)) (entry_back e)
    ∙ ap (λ (xs : List EntryAt). e ∷ xs) (entries_back es)

record_of : Group → GroupAt
record_of (Single d) = group.Single (entry_of d)
record_of (Rec ds) = group.Rec (map entry_of ds)

group_back : (g : GroupAt) → record_of (group_of g) ≡ g
unfolding record_of
group_back (group.Single e) = ap group.Single (entry_back e)
group_back (group.Rec es) = ap group.Rec (entries_back es)

groups_back : (gs : List GroupAt) → map record_of (section_of gs) ≡ gs
groups_back [] = refl
groups_back (g ∷ gs) = ap (λ (x : GroupAt). x ∷ map record_of (section_of gs)) (group_back g)
    ∙ ap (λ (xs : List GroupAt). g ∷ xs) (groups_back gs)

pub same_entry : (d e : EntryAt) → entry_definition d ≡ entry_definition e → d ≡ e
same_entry d e p = sym (entry_back d) ∙ (ap entry_of p ∙ entry_back e)

pub same_section : (gs hs : List GroupAt) → section_of gs ≡ section_of hs → gs ≡ hs
same_section gs hs p = sym (groups_back gs) ∙ (ap (map record_of) p ∙ groups_back hs)
