-- A second round changes nothing.
use Rattle.std.proofs.Common.{◌≡◌, ℕ, ◌<◌, List, arith}
use Rattle.std.specs.List.{range_with_len}
use Rattle.std.proofs.lemmas.List.FromFn.{length-range_with_len, get_or-range_with_len}
use Rattle.walrus_ty.specs.Groups.{Section}
use Rattle.walrus_sections.specs.{Section.index_space, Section.IsWellNamed, NormalForm.image, NormalForm.identity, NormalForm.IsNormalForm}
use Rattle.walrus_sections.proofs.Sections.Rows.{laid_out}
use Rattle.walrus_sections.proofs.NormalForms.{Again.names_again, Again.normal_again, SameMap.normal_same, Fewer.no_more}

image-range : (n i : ℕ) → i < n → i ≡ image (range_with_len 0 n) i
image-range n i h = let z = get_or-range_with_len 0 n i 0 h in omega arith

-- the section of a normal form is well-named
pub normal_well_named :
    (s n : Section) (m : List ℕ) → IsWellNamed s → IsNormalForm s n m → IsWellNamed n
normal_well_named s n m w c = record {
  few = (let a = no_more (index_space s) (index_space n) (image m) c.laws in let b = w.few in omega arith);
  below_ends = names_again (index_space s) (index_space n) (image m) (laid_out s) (laid_out n) w.below_ends
      c.laws;
}

pub normal_twice :
    (s n : Section) (m : List ℕ) → IsWellNamed s → IsNormalForm s n m →
    IsNormalForm n n (identity n)
normal_twice s n m w c =
    let ln = laid_out n in
    let again = normal_again (index_space s) (index_space n) (image m) (laid_out s) ln w.below_ends c.laws in
    let wn = normal_well_named s n m w c in
    record {
      one_each = length-range_with_len 0 (index_space n).count;
      filled = c.filled;
      laws = normal_same (index_space n) (index_space n) (λ i. i) (image (identity n)) ln wn.below_ends
          (image-range (index_space n).count) again;
    }
