-- Two sections have one output exactly where moves join them.
use Rattle.std.proofs.Common.{◌≡◌, ℕ, suc, ap, sym, ◌∙◌, arith, List, map, subst, ◌↔◌}
use Rattle.std.specs.{List.range_with_len, Ordering.ordering_reverse}
use Rattle.std.proofs.lemmas.List.FromFn.{length-map-range_with_len, get_or-map-range_with_len}
use Rattle.walrus_ty.specs.{Definition.rename, Definition.definition_cmp, Groups.Section}
use Rattle.walrus_sections.specs.Section.{IndexSpace, Place, index_space, index_space_of_places, IsFilled, IsWellNamed}
use Rattle.walrus_sections.specs.Moves.{exchange, skip, Move, drop_empty_rec, drop_repeat, swap_neighbours, ChainTo, stop, forth, back, DescentTo, bottom, down}
use Rattle.walrus_sections.specs.NormalForm.{image, IsNormal, IsOutput}
use Rattle.walrus_sections.proofs.{Sections.Rows.laid_out, NormalForms.SameMap.normal_same, NormalForms.One.one_normal_form, Moves.ByIndex.IsSwapped, Moves.Swapped.normal_swapped, Moves.Swapped.exchanged_back, Moves.SwappedPlaces.swapped_by_index, Moves.Without.normal_without, Moves.Sorting.descend}
use Rattle.walrus_sections.proofs.Moves.{Exchange.exchange_twice, Exchange.exchange_first, Exchange.exchange_second, Exchange.exchange_within, WithoutPlaces.drop_empty_rec-places, WithoutPlaces.without_by_index}
use Rattle.walrus_ty.proofs.Names.Definitions.{named_before, cmp_same, definitions_total}

listed :
    (s n : Section) (f : ℕ → ℕ) → IsWellNamed s → IsFilled n →
    IsNormal (index_space s) (index_space n) f → IsOutput s n
listed s n f w g c =
    let m = map f (range_with_len 0 (index_space s).count) in (
      m,
      record {
        one_each = length-map-range_with_len f 0 (index_space s).count;
        filled = g;
        laws = normal_same (index_space s) (index_space n) f (image m) (laid_out s) w.below_ends (λ i h.
            sym (get_or-map-range_with_len f 0 (index_space s).count i i 0 h (omega arith))) c;
      },
    )

swapped_back : (s r : IndexSpace) (i : ℕ) → IsSwapped s r i → IsSwapped r s i
swapped_back s r i sw =
    let z = sw.inside in
    let u = exchange i in
    let ri : r.definition i ≡ rename (exchange i) (s.definition (suc i)) = sw.definition i (omega arith)
    ∙ ap (λ y. rename (exchange i) (s.definition y)) (exchange_first i) in
    let rj : r.definition (suc i) ≡ rename (exchange i) (s.definition i) = sw.definition (suc i) sw.inside
    ∙ ap (λ y. rename (exchange i) (s.definition y)) (exchange_second i) in
    record {
      count = sym sw.count;
      inside = (let c = sw.count in omega arith);
      first_single = sw.rec_position i (omega arith) ∙ sw.first_single;
      second_single = sw.rec_position (suc i) sw.inside ∙ sw.second_single;
      first_own = λ k h. (let b = named_before (exchange i) (s.definition (suc i)) k (rw ri at h) in sym b.2
          ∙ (ap (exchange i) (sw.second_own b.0 b.1) ∙ exchange_second i));
      second_own = λ k h. (let b = named_before (exchange i) (s.definition i) k (rw rj at h) in sym b.2
          ∙ (ap (exchange i) (sw.first_own b.0 b.1) ∙ exchange_first i));
      order = (let e = s.definition i in let f = s.definition (suc i) in
          let a : definition_cmp (rename (exchange i) f) (rename (exchange i) e) ≡ ordering_reverse
          (definition_cmp (rename (exchange i) e) (rename (exchange i) f)) =
          definitions_total.antisymm (rename (exchange i) f) (rename (exchange i) e) in
          let b : definition_cmp f e ≡ ordering_reverse (definition_cmp e f) =
          definitions_total.antisymm f e in
          let c : definition_cmp (rename (exchange i) f) (rename (exchange i) e) ≡ definition_cmp f e = a
          ∙ (ap ordering_reverse (sym sw.order) ∙ sym b) in
          cmp_same ri rj ∙ (c ∙ sym (cmp_same (ap (rename (exchange i)) ri ∙ exchanged_back i f)
          (ap (rename (exchange i)) rj ∙ exchanged_back i e))));
      definition = λ k h. (let c = sw.count in
          sym (exchanged_back i (s.definition k)) ∙
          (ap (λ y. rename (exchange i) (rename (exchange i) (s.definition y))) (sym (exchange_twice i k))
          ∙ ap (rename (exchange i)) (sym (sw.definition (exchange i k) (exchange_within
          i k s.count sw.inside (omega arith))))));
      rec_position = λ k h. (let c = sw.count in sym (sw.rec_position k (omega arith)));
      end = λ k h. (let c = sw.count in sym (sw.end k (omega arith)));
    }

back_move :
    (s q n : Section) → IsWellNamed s → IsWellNamed q → Move s q → IsOutput q n → IsOutput s n
back_move s q n ws wq (drop_empty_rec x) o =
    listed s n (image o.0) ws o.1.filled (subst (λ (ps : List Place).
    IsNormal (index_space_of_places ps) (index_space n) (image o.0)) (sym (drop_empty_rec-places s q x))
    o.1.laws)
back_move s q n ws wq (drop_repeat i j x) o =
    listed s n (λ k. image o.0 (skip i j k)) ws o.1.filled
    (normal_without (index_space s) (index_space q) (index_space n) (image o.0) i j (laid_out s)
    ws.below_ends (without_by_index s q i j x) o.1.laws)
back_move s q n ws wq (swap_neighbours i x) o =
    listed s n (λ k. image o.0 (exchange i k)) ws o.1.filled
    (normal_swapped (index_space q) (index_space s) (index_space n) (image o.0) i (laid_out q)
    wq.below_ends (swapped_back (index_space s) (index_space q) i (swapped_by_index s q i x)) o.1.laws)

down_output : (q s n : Section) → IsWellNamed s → DescentTo q s → IsOutput q n → IsOutput s n
down_output q _ n w bottom o = o
down_output q _ n w (down s r mv lo wr d) o = back_move s r n w wr mv (down_output q r n wr d o)

-- each well-named section has an output, to which moves lead
pub output : (s : Section) → IsWellNamed s → (n : Section) × IsOutput s n × DescentTo n s
output s w =
    let r = descend s w in (
      r.q,
      down_output r.q s r.q w r.descent (listed r.q r.q (λ k. k) r.well_named r.filled r.holds),
      r.descent,
    )

forth_move :
    (s q n : Section) → IsWellNamed s → IsWellNamed q → Move s q → IsOutput s n → IsOutput q n
forth_move s q n ws wq mv o =
    let p = output q wq in
    let b = back_move s q p.0 ws wq mv p.1 in
    let e = one_normal_form s p.0 n b.0 o.0 ws.below_ends b.1 o.1 in
    subst (IsOutput q) e.0 p.1

pub chain_output : (b a n : Section) → IsWellNamed a → ChainTo b a → IsOutput b n → IsOutput a n
chain_output b _ n w stop o = o
chain_output b _ n w (forth a q mv wq c) o = back_move a q n w wq mv (chain_output b q n wq c o)
chain_output b _ n w (back a q mv wq c) o = forth_move q a n wq w mv (chain_output b q n wq c o)

chain_down : (n s : Section) → DescentTo n s → ChainTo n s
chain_down n _ bottom = stop
chain_down n _ (down s r mv lo wr d) = forth s r mv wr (chain_down n r d)

chain_join : (r q s : Section) → ChainTo q s → ChainTo r q → ChainTo r s
chain_join r q _ stop d = d
chain_join r q _ (forth s q' mv w c) d = forth s q' mv w (chain_join r q q' c d)
chain_join r q _ (back s q' mv w c) d = back s q' mv w (chain_join r q q' c d)

chain_turn : (r s : Section) → IsWellNamed s → ChainTo r s → ChainTo s r
chain_turn r _ w stop = stop
chain_turn r _ w (forth s q mv wq c) = chain_join s q r (chain_turn r q wq c) (back q s mv w stop)
chain_turn r _ w (back s q mv wq c) = chain_join s q r (chain_turn r q wq c) (forth q s mv w stop)

pub same_output :
    (a b : Section) → IsWellNamed a → IsWellNamed b →
    (((n : Section) × IsOutput a n × IsOutput b n) ↔ ChainTo b a)
same_output a b wa wb = (
  (λ x. (
      let p = output a wa in let q = output b wb in
      let e = one_normal_form a p.0 x.0 p.1.0 x.1.0 wa.below_ends p.1.1 x.1.1 in
      let f = one_normal_form b q.0 x.0 q.1.0 x.2.0 wb.below_ends q.1.1 x.2.1 in
      let ca : ChainTo p.0 a = chain_down p.0 a p.2 in
      let cb : ChainTo p.0 b = subst (λ (y : Section). ChainTo y b) (f.0 ∙ sym e.0) (chain_down q.0 b q.2) in
      chain_join b p.0 a ca (chain_turn p.0 b wb cb))),
  (λ c. (let q = output b wb in (q.0, chain_output b a q.0 wa c q.1, q.1))),
)
