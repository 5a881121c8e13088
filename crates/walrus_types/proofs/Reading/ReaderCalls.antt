-- What the calls of a reader come to.
use Rattle.std.proofs.Common.{◌≡◌, ℕ, ◌+◌, ◌<◌, List, [], ◌∷◌, ◌++◌, length, map, get_or, set, take, drop, sym, ap, subst, ◌∙◌, Some, None, false, append_assoc, slice_get, ◌⊎◌, inl, inr, Result, Ok, Err, IsErrAnd, IfErr, OnErr}
use Rattle.std.specs.List.{range_with_len}
use Rattle.std.proofs.Math.Seq.{set-append_seam}
use Rattle.std.proofs.lemmas.{List.take_more, List.take-append-drop, List.map-append, Option.unwrap_or-slice_get}
use Rattle.walrus_ty.specs.declared.{convert.SubType.SubType, records.EntryAt.EntryAt, records.GroupAt.GroupAt}
use Rattle.walrus_sections.specs.declared.error.ReadError.{ReadError, TheVariants.Memory}
use Rattle.walrus_ty.specs.{Definition.Definition, Definition.rename, Lookups.value_or_zero, Records.entry_definition, Records.group_of, Records.section_of, Groups.Section, Groups.Single, Groups.Rec, SubTypes.sub_type_definition, Types.ModuleType, Types.unnamed_type}
use Rattle.walrus_sections.specs.{FirstError.group_error, FirstError.definitions_of, FirstError.IsFirstError, NormalForm.image, Section.index_space}
use Rattle.walrus_types.specs.{ReaderState.IsReadInto, ReaderState.ReaderState, ReaderState.IsSameState, ReadResult.type_of_definition, Table.Table, Table.Member}
use Rattle.walrus_types.specs.Steps.TableReads.{ReadsSingle, ReadsRec, member_definition}
use Rattle.walrus_ty.proofs.Names.Definitions.{rename_agree}
use Rattle.walrus_types.proofs.Reading.Reader.{read_still, single_read, rec_read, member_stored}

-- the look-up of the ids is their image
pub looked_up :
    (ids : List ℕ) (d : Definition) →
    rename (value_or_zero (slice_get ids)) d ≡ rename (image ids) d
looked_up ids d = rename_agree (value_or_zero (slice_get ids)) (image ids) d (λ k named.
    unwrap_or-slice_get ids k 0)

pub sub_type_stored :
    (sub : SubType) (ids : List ℕ) (d : Definition) (id : ℕ) →
    sub_type_definition sub ≡ rename (value_or_zero (slice_get ids)) d →
    unnamed_type sub.kind sub.is_final sub.supertype false id ≡
    type_of_definition (rename (image ids) d) id
sub_type_stored sub ids d id h = member_stored (sub.kind, sub.is_final, sub.supertype) (rename (image ids) d)
    id (h ∙ looked_up ids d)

one_more :
    {A : Type 0} (xs : List A) (i : ℕ) (x : A) → i < length xs → x ≡ get_or xs i x →
    take (i + 1) xs ≡ take i xs ++ x ∷ []
one_more xs i x h at = take_more xs i x h ∙ ap (λ x. take i xs ++ x ∷ []) (sym at)

-- one more entry of a `Rec` is read
pub members_more :
    (ids : List ℕ) (ms : List Member) (sub : SubType) (es : List EntryAt) (i : ℕ) (e : EntryAt) →
    i < length es → e ≡ get_or es i e →
    map member_definition ms ≡ map (rename (image ids)) (map entry_definition (take i es)) →
    sub_type_definition sub ≡ rename (value_or_zero (slice_get ids)) (entry_definition e) →
    map member_definition (ms ++ (sub.kind, sub.is_final, sub.supertype) ∷ []) ≡
    map (rename (image ids)) (map entry_definition (take (i + 1) es))
members_more ids ms sub es i e h at so_far one =
    let f : Definition → Definition = rename (image ids) in
    let m : Member = (sub.kind, sub.is_final, sub.supertype) in
    map-append member_definition ms (m ∷ [])
    ∙ (ap (λ (ds : List Definition). ds ++ member_definition m ∷ []) so_far
    ∙ (ap (λ (d : Definition). map f (map entry_definition (take i es)) ++ d ∷ []) (one
    ∙ looked_up ids (entry_definition e))
    ∙ sym (ap (λ (xs : List EntryAt). map f (map entry_definition xs)) (one_more es i e h at)
    ∙ (ap (map f) (map-append entry_definition (take i es) (e ∷ []))
    ∙ map-append f (map entry_definition (take i es)) (entry_definition e ∷ [])))))

-- a `Single` is read, and its index is sent to where it stands
pub single_pushed :
    (s : Section) (old new : Table) (r ids ids' : List ℕ) (index id : ℕ) (d : Definition) →
    IsReadInto s old r → index ≡ length r → ids ≡ r ++ index ∷ [] → ids' ≡ set ids index id →
    group_error index (d ∷ []) ≡ None →
    ReadsSingle old new (type_of_definition (rename (image ids) d) (length old.types.slots)) id →
    IsReadInto (s ++ Single d ∷ []) new ids'
single_pushed s old new r ids ids' index id d is at pushed sent fine reads =
    let count : index ≡ (index_space s).count = at ∙ is.one_each in
    let slots : length old.types.slots ≡ (index_space s).count = is.slot_each in
    let where_sent : r ++ id ∷ [] ≡ ids' = sym (sent
    ∙ (ap (λ (xs : List ℕ). set xs index id) pushed
    ∙ (ap (λ (i : ℕ). set (r ++ index ∷ []) i id) at ∙ set-append_seam r index [] id))) in
    let own : type_of_definition (rename (image ids) d) (length old.types.slots) ≡ type_of_definition
    (rename (image (r ++ (index_space s).count ∷ [])) d) (index_space s).count =
    ap (λ (xs : List ℕ). type_of_definition (rename (image xs) d) (length old.types.slots)) (pushed
    ∙ ap (λ (i : ℕ). r ++ i ∷ []) count) ∙ ap
    (type_of_definition (rename (image (r ++ (index_space s).count ∷ [])) d)) slots in
    subst (λ (xs : List ℕ). IsReadInto (s ++ Single d ∷ []) new xs) where_sent
    (single_read s old r is d (subst (λ (i : ℕ). group_error i (d ∷ []) ≡ None) count fine) new id
    (subst (λ (ty : ModuleType). ReadsSingle old new ty id) own reads))

-- a `Rec` is read
pub rec_pushed :
    (s : Section) (old new : Table) (r ids : List ℕ) (index : ℕ) (ds : List Definition) →
    IsReadInto s old r → index ≡ length r → ids ≡ r ++ range_with_len index (length ds) →
    group_error index ds ≡ None → ReadsRec old new (map (rename (image ids)) ds) →
    IsReadInto (s ++ Rec ds ∷ []) new ids
rec_pushed s old new r ids index ds is at pushed fine reads =
    let count : index ≡ (index_space s).count = at ∙ is.one_each in
    let same : ids ≡ r ++ range_with_len (index_space s).count (length ds) = pushed
    ∙ ap (λ (i : ℕ). r ++ range_with_len i (length ds)) count in
    subst (λ (xs : List ℕ). IsReadInto (s ++ Rec ds ∷ []) new xs) (sym same)
    (rec_read s old r is ds (subst (λ (i : ℕ). group_error i ds ≡ None) count fine) new reads.0 (reads.2
    ∙ ap (λ (xs : List ℕ). map (rename (image xs)) ds) same) reads.1)

-- the groups so far, with one more
pub section_more :
    (gs : List GroupAt) (i : ℕ) (g : GroupAt) → i < length gs → g ≡ get_or gs i g →
    section_of (take (i + 1) gs) ≡ section_of (take i gs) ++ group_of g ∷ []
section_more gs i g h at = ap section_of (one_more gs i g h at) ∙ map-append group_of (take i gs) (g ∷ [])

-- a group that is refused is the first, as those before it are read
pub first_error :
    (gs : List GroupAt) (i : ℕ) (g : GroupAt) (t : Table) (ids : List ℕ) (e : ReadError) →
    i < length gs → g ≡ get_or gs i g → IsReadInto (section_of (take i gs)) t ids →
    (group_error (length ids) (definitions_of (group_of g)) ≡ Some e) ⊎
    ((e ≡ Memory) × (group_error (length ids) (definitions_of (group_of g)) ≡ None)) →
    (e ≡ Memory) ⊎ IsFirstError (section_of gs) e
first_error gs i g t ids e h at is (inr m) = inl m.0
first_error gs i g t ids e h at is (inl f) = inr (record {
  before = section_of (take i gs);
  group = group_of g;
  after = section_of (drop (i + 1) gs);
  split = ap section_of (sym (take-append-drop (i + 1) gs))
      ∙ (map-append group_of (take (i + 1) gs) (drop (i + 1) gs)
      ∙ (ap (λ (s : Section). s ++ section_of (drop (i + 1) gs)) (section_more gs i g h at)
      ∙ append_assoc (section_of (take i gs)) (group_of g ∷ []) (section_of (drop (i + 1) gs))));
  well_named = is.well_named;
  is = subst (λ (n : ℕ). group_error n (definitions_of (group_of g)) ≡ Some e) is.one_each f;
})

-- an error of which Q holds, where Q is told further
pub if_err_from :
    {T E : Type 0} {Q : E → Type 0} (P : E → Type 0) (r : Result T E) → IsErrAnd r Q →
    ((y : E) → Q y → P y) → IfErr r P
if_err_from P (Ok x) h f = absurd h
if_err_from P (Err y) h f = f y h

-- a reader that is the same has read the same
pub read_kept :
    {T E : Type 0} (s : Section) (old new : ReaderState) (r : Result T E) →
    OnErr r (IsSameState old new) → IsReadInto s old.table old.ids →
    OnErr r (IsReadInto s new.table new.ids)
read_kept s old new (Ok x) h is = tt
read_kept s old new (Err e) h is = subst (λ (ids : List ℕ). IsReadInto s new.table ids) (sym h.ids)
    (read_still s old.table new.table old.ids h.table is)
