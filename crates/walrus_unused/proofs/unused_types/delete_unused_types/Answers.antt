use Rattle.std.proofs.Common.{subst, sym, List, ℕ, nat_eq}
use Rattle.std.specs.List.{IsDistinct}
use Rattle.walrus_types.specs.Table.{DeletesAll}
use Rattle.walrus_unused.proofs.UnusedTypes.Listing.{distinct_from_increasing}
use Rattle.walrus_unused.proofs.UnusedTypes.Keeping.{live_needed, needed_kept}
use Rattle.walrus_unused.proofs.UnusedTypes.Writing.{all_indices_after}
use Rattle.walrus_unused.proofs.unused_types.delete_unused_types.Goals as goal

pub delete_all-requires-clause-distinct : goal.delete_all-requires-clause-distinct
delete_all-requires-clause-distinct c =
    subst (IsDistinct nat_eq) (sym c.as_slice.ensures.value)
    (distinct_from_increasing c.in_ok-unused.unused.items c.in_ok-unused.ensures.unused.in_order)

pub returns-clause-deleted : goal.returns-clause-deleted
returns-clause-deleted c = c.in_ok-unused.ensures.unused

pub returns-clause-ok : goal.returns-clause-ok
returns-clause-ok c =
    subst (λ (ids : List ℕ). DeletesAll c.args.types.now ids c.delete_all.new.self) c.as_slice.ensures.value
    c.in_ok-delete_all.ensures.ok

pub returns-clause-live : goal.returns-clause-live
returns-clause-live c =
    let old = c.args.types.now in
    let new = c.delete_all.new.self in
    let all = subst (λ (ids : List ℕ). DeletesAll old ids new) c.as_slice.ensures.value
    c.in_ok-delete_all.ensures.ok in
    live_needed old new c.args.roots.now c.in_ok-unused.unused.items c.in_ok-unused.ensures.grouping
    c.requires c.in_ok-unused.ensures.unused all

pub returns-clause-kept : goal.returns-clause-kept
returns-clause-kept c =
    let old = c.args.types.now in
    let new = c.delete_all.new.self in
    let all = subst (λ (ids : List ℕ). DeletesAll old ids new) c.as_slice.ensures.value
    c.in_ok-delete_all.ensures.ok in
    needed_kept old new c.args.roots.now c.in_ok-unused.unused.items c.in_ok-unused.ensures.grouping
    c.requires c.in_ok-unused.ensures.unused all

pub returns-clause-all_indices : goal.returns-clause-all_indices
returns-clause-all_indices c =
    let old = c.args.types.now in
    let new = c.delete_all.new.self in
    let all = subst (λ (ids : List ℕ). DeletesAll old ids new) c.as_slice.ensures.value
    c.in_ok-delete_all.ensures.ok in
    all_indices_after old new c.args.roots.now c.in_ok-unused.unused.items c.in_ok-unused.ensures.grouping
    c.requires c.in_ok-unused.ensures.unused all
