use Rattle.std.proofs.Common.{◌≡◌, List, [], ◌∷◌, ◌++◌, refl, ap, ◌∙◌, flat_map}
use Rattle.std.proofs.lemmas.List.Concat.{flat_map-append}
use Rattle.ir_instr.specs.declared.instr.Instr.{Instr}
use Rattle.ir_instr.specs.declared.instr.Instr.TheVariants as instr
use Rattle.ir_instr.specs.declared.exceptions.LegacyCatch.{LegacyCatch}
use Rattle.ir_instr.specs.declared.exceptions.LegacyCatch.TheVariants as legacy
use Rattle.ir_instr.specs.declared.exceptions.TryTableCatch.{TryTableCatch}
use Rattle.ir_instr.specs.declared.exceptions.TryTableCatch.TheVariants as clause
use Rattle.walrus_ir.specs.Calls.{Calls, leaves, and_then, each, reported}
use Rattle.walrus_ir.specs.Fields.{fields, clause_fields, legacy_fields}
use Rattle.walrus_ir.proofs.Reported.{reported_each, reported_put}
use Rattle.walrus_functions.specs.Nesting.{children}
use Rattle.walrus_traversals.specs.Ids.{instr_seqs_in}
use Rattle.walrus_traversals.specs.Sequences.{handlers_of, labels_visited}
use Rattle.walrus_traversals.proofs.laws.sequences_visited_are_children.Goals as goal

-- no clause is given a sequence
none_of : {A : Type 0} (f : A → Calls A) → ((x : A) → flat_map instr_seqs_in (reported (f x)) ≡ []) →
    (xs : List A) → flat_map instr_seqs_in (flat_map (λ x. reported (f x)) xs) ≡ []
none_of f e [] = refl
none_of f e (x ∷ xs) =
    flat_map-append instr_seqs_in (reported (f x)) (flat_map (λ y. reported (f y)) xs)
    ∙ ap (λ l. l ++ flat_map instr_seqs_in (flat_map (λ y. reported (f y)) xs)) (e x) ∙ none_of f e xs

none_listed : {A B : Type 0} (f : A → Calls A) (put : List A → B) →
    ((x : A) → flat_map instr_seqs_in (reported (f x)) ≡ []) →
    (xs : List A) → flat_map instr_seqs_in (reported (and_then (each f xs) (λ ys. leaves (put ys)))) ≡ []
none_listed f put e xs =
    ap (flat_map instr_seqs_in) (reported_put (each f xs) put ∙ reported_each f xs) ∙ none_of f e xs

in_clause : (x : TryTableCatch) → flat_map instr_seqs_in (reported (clause_fields x)) ≡ []
in_clause (clause.Catch tag label) = refl
in_clause (clause.CatchRef tag label) = refl
in_clause (clause.CatchAll label) = refl
in_clause (clause.CatchAllRef label) = refl

in_legacy : (x : LegacyCatch) → flat_map instr_seqs_in (reported (legacy_fields x)) ≡ []
in_legacy (legacy.Catch tag handler) = refl
in_legacy (legacy.CatchAll handler) = refl
in_legacy (legacy.Delegate depth) = refl

visited : (i : Instr) →
    flat_map instr_seqs_in (reported (fields i)) ++ handlers_of i ≡ labels_visited i ++ children i
visited (instr.TryTable x) =
    ap (λ l. x.seq ∷ l ++ [])
    (none_listed clause_fields (λ b. instr.TryTable (record x { catches = b })) in_clause x.catches)
visited (instr.Try x) =
    ap (λ l. x.seq ∷ l ++ handlers_of (instr.Try x))
    (none_listed legacy_fields (λ b. instr.Try (record x { catches = b })) in_legacy x.catches)
visited _ = refl

pub returns : goal.returns
returns c = visited
