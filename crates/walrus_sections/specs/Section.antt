-- `index_space`, a type section by index, and `IsWellNamed`, when it can be read. A section is a
-- list of recursion groups, whose definitions are numbered through from 0.
-- WebAssembly core specification: "Modules", types (the type section numbers all definitions of all
-- groups in one index space); "Types", recursive types (`rectype`: a recursion group) and sub types
-- (`subtype`: one definition). A `Single` is the abbreviation by which a group of one is written
-- without `rec`; here it is told apart from a `Rec` of one.
use Rattle.walrus_ty.specs.Groups.{Single, Rec, Section}
use Rattle.std.specs.Prelude.{◌≡◌, ℕ, suc, ◌+◌, ◌^◌, ◌<◌, false, List, [], ◌∷◌, length, Option, Some, None, slice_index_or}
use Rattle.walrus_ty.specs.Definition.{Function, Definition, Names}

-- what stands at an index: the definition; the end of its group, one past the group's last index;
-- and its position among the `Rec`s, which is none in a `Single` and `Some (k, t)` at place t of
-- the k-th `Rec` that isn't empty, both from 0
pub record Place : Type 0 where
  pub definition : Definition
  pub end : ℕ
  pub rec_position : Option (ℕ × ℕ)

-- the places of a `Rec` that is the k-th and ends at `end`, from its place t on, and then the rest
abbrev pub rec_places : List Definition → ℕ → ℕ → ℕ → List Place → List Place
rec_places [] end k t rest = rest
rec_places (d ∷ ds) end k t rest =
    record { definition = d; end = end; rec_position = Some (k, t) } ∷
    rec_places ds end k (suc t) rest

-- an empty `Rec` does not count
abbrev pub recs_after : List Definition → ℕ → ℕ
recs_after [] k = k
recs_after (d ∷ ds) k = suc k

-- the places of groups that begin at index b, behind k `Rec`s that aren't empty
abbrev pub places_from : ℕ → ℕ → Section → List Place
places_from b k [] = []
places_from b k (Single d ∷ gs) =
    record { definition = d; end = suc b; rec_position = None } ∷ places_from (suc b) k gs
places_from b k (Rec ds ∷ gs) =
    rec_places ds (length ds + b) k 0 (places_from (length ds + b) (recs_after ds k) gs)

-- stands for what is at no index
abbrev pub no_place : Place
no_place =
    record {
      definition = record { composite = Function [] []; is_final = false; supertype = None };
      end = 0;
      rec_position = None;
    }

-- a section by index: how many definitions there are, and what stands at each index below that
pub record IndexSpace : Type 0 where
  pub count : ℕ
  pub definition : ℕ → Definition
  pub end : ℕ → ℕ
  pub rec_position : ℕ → Option (ℕ × ℕ)

abbrev pub index_space_of_places : List Place → IndexSpace
index_space_of_places ps = record {
  count = length ps;
  definition = λ i. (slice_index_or ps i no_place).definition;
  end = λ i. (slice_index_or ps i no_place).end;
  rec_position = λ i. (slice_index_or ps i no_place).rec_position;
}

abbrev pub index_space : Section → IndexSpace
index_space section = index_space_of_places (places_from 0 0 section)

-- what stands at i is a `Single`
abbrev pub IsSingle : IndexSpace → ℕ → Type 0
IsSingle s i = s.rec_position i ≡ None

-- what stands at i is a member of a `Rec`
abbrev pub IsInRec : IndexSpace → ℕ → Type 0
IsInRec s i = (x : ℕ × ℕ) × (s.rec_position i ≡ Some x)

-- each definition names only indices below the end of its group
abbrev pub NamesBelowEnds : IndexSpace → Type 0
NamesBelowEnds s = (i : ℕ) → i < s.count → (k : ℕ) → Names (s.definition i) k → k < s.end i

-- the section can be read: 32 bits count its entries, and no name points past its own group. That
-- it is valid is not asked: a supertype may be final, come later in its group, or not match
pub record IsWellNamed (section : Section) : Type 0 where
  pub few : (index_space section).count < 2 ^ 32
  pub below_ends : NamesBelowEnds (index_space section)

-- no `Rec` is empty
abbrev pub IsFilled : Section → Type 0
IsFilled [] = Unit {0}
IsFilled (Single d ∷ gs) = IsFilled gs
IsFilled (Rec [] ∷ gs) = ⊥
IsFilled (Rec (d ∷ ds) ∷ gs) = IsFilled gs
