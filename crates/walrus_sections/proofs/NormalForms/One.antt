-- A section has one normal form.
use Rattle.std.proofs.Common.{◌≡◌, ℕ, suc, ◌<◌, List, [], ◌∷◌, length, refl, sym, ◌∙◌, arith}
use Rattle.std.proofs.lemmas.List.{ext_get_or}
use Rattle.walrus_sections.specs.Section.{Place, places_from, index_space, index_space_of_places, NamesBelowEnds}
use Rattle.walrus_ty.specs.Groups.{Section}
use Rattle.walrus_sections.specs.NormalForm.{image, IsNormalForm}
use Rattle.walrus_sections.proofs.Sections.{Rows.laid_out, Rebuild.cells, Rebuild.rebuild}
use Rattle.walrus_sections.proofs.NormalForms.{Agree.agree, Agree.normal_merges, Images.same_image, Images.count_least, Images.same_definition, Images.same_rec_positions}

same_cells :
    (ps qs : List Place) → length ps ≡ length qs →
    ((p : ℕ) → p < length ps →
    (index_space_of_places ps).definition p ≡ (index_space_of_places qs).definition p) →
    ((p : ℕ) → p < length ps →
    (index_space_of_places ps).rec_position p ≡ (index_space_of_places qs).rec_position p) →
    cells ps ≡ cells qs
same_cells [] [] l h g = refl
same_cells [] (q ∷ qs) l h g = absurd (omega arith)
same_cells (p ∷ ps) [] l h g = absurd (omega arith)
same_cells (p ∷ ps) (q ∷ qs) l h g =
    let i = same_cells ps qs (omega arith) (λ k b. h (suc k) (omega arith)) (λ k b. g (suc k) (omega arith))
    in
    let x : p.definition ≡ q.definition = h 0 (omega arith) in
    let y : p.rec_position ≡ q.rec_position = g 0 (omega arith) in
    cc

pub one_normal_form :
    (s n n' : Section) (m w : List ℕ) → NamesBelowEnds (index_space s) → IsNormalForm s n m →
    IsNormalForm s n' w → (n ≡ n') × (m ≡ w)
one_normal_form s n n' m w wn c d =
    let l = laid_out s in
    let ag = agree (index_space s) (index_space n) (image m) (image w) l wn c.laws
    (normal_merges (index_space s) (index_space n') (image w) d.laws) in
    let ga = agree (index_space s) (index_space n') (image w) (image m) l wn d.laws
    (normal_merges (index_space s) (index_space n) (image m) c.laws) in
    let eq = same_image (index_space s) (index_space n) (index_space n') (image m) (image w) c.laws d.laws l
    ag ga in
    let qe : (i : ℕ) → i < (index_space s).count → image w i ≡ image m i = λ i h. sym (eq i h) in
    let a = count_least (index_space s) (index_space n) (index_space n') (image m) (image w) l wn c.laws
    d.laws eq in
    let b = count_least (index_space s) (index_space n') (index_space n) (image w) (image m) l wn d.laws
    c.laws qe in
    let ds = same_definition (index_space s) (index_space n) (index_space n') (image m) (image w) l wn c.laws
    d.laws eq in
    let sp = same_rec_positions (index_space s) (index_space n) (index_space n') (image m) (image w) c.laws
    d.laws eq in
    let lm = c.one_each in let lw = d.one_each in (
      rebuild n n' 0 0 0 c.filled d.filled (same_cells (places_from 0 0 n) (places_from 0 0 n') (omega arith)
          ds sp),
      ext_get_or 0 m w (lm ∙ sym lw) (λ i h. eq i (omega arith)),
    )
