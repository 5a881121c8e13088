-- How far a nesting check has come.
use Rattle.std.specs.Prelude.{◌≡◌, ℕ, suc, ◌+◌, ◌<◌, ◌⊎◌, List, [], ◌∷◌, ◌++◌, All, Contains, Some, slice_get, slice_set, map, take, length, ◌-◌, flat_map}
use Rattle.ir_instr.specs.declared.instr.Instr.{Instr}
use Rattle.walrus_functions.specs.Body.{Body, Knows}
use Rattle.walrus_functions.specs.Nesting.{children, children_of, IsChild, IsReachable}
use Rattle.walrus_nesting.specs.Certificates.{IsPath, ShowsCycle, ShowsUnknown}
use Rattle.walrus_nesting.specs.declared.nesting.search.Mark.{Mark}
use Rattle.walrus_nesting.specs.declared.nesting.search.Mark.TheVariants.{New, Open, Done}
use Rattle.walrus_nesting.specs.declared.nesting.search.Work.{Work}
use Rattle.walrus_nesting.specs.declared.nesting.search.Work.TheVariants.{Enter, Leave}
use Rattle.walrus_nesting.specs.declared.nesting.search.Found.{Found}
use Rattle.walrus_nesting.specs.declared.nesting.search.Found.TheVariants.{Nothing, Back, Missing}

-- a check under way, with the work that comes next first
pub record State : Type 0 where
  pub start : ℕ
  pub marks : List Mark
  pub path : List ℕ
  pub work : List Work
  pub done : List ℕ

-- the children of these instructions in order
abbrev pub children_in : List (Instr × ℕ) → List ℕ
children_in instrs = flat_map (λ x. children x.0) instrs

-- the state in which this work stands before the rest
abbrev pub with_work : Work → State → State
with_work w s = record s { work = w ∷ s.work }

-- the state after a sequence was entered: its children come next, and then it is left
abbrev pub after_enter : Body → ℕ → State → State
after_enter f id s = record s {
  marks = slice_set s.marks id (Open (length s.path));
  path = s.path ++ id ∷ [];
  work = map Enter (children_of f id) ++ Leave id ∷ s.work;
}

-- the state after the last sequence on the path was left
abbrev pub after_leave : ℕ → State → State
after_leave id s = record s {
  marks = slice_set s.marks id Done;
  path = take (length s.path - 1) s.path;
  done = s.done ++ id ∷ [];
}

-- each sequence that is still to be entered ends a path, and each that is to be left ends the path
-- on which it is open
abbrev pub IsStacked : Body → ℕ → List ℕ → List Work → Type 0
IsStacked f start path [] = path ≡ []
IsStacked f start path (Enter id ∷ rest) =
    IsPath f start (path ++ id ∷ []) × IsStacked f start path rest
IsStacked f start path (Leave id ∷ rest) =
    (before : List ℕ) × (path ≡ before ++ id ∷ [])
    × IsPath f start path × IsStacked f start before rest

-- the children of each sequence that is open are done, or entered before it is left; so is `start`.
-- The ids of `ahead` are entered or left first
abbrev pub IsCovered : Body → ℕ → List ℕ → List ℕ → List Work → Type 0
IsCovered f start done ahead [] = Contains done start ⊎ Contains ahead start
IsCovered f start done ahead (Enter id ∷ rest) = IsCovered f start done (id ∷ ahead) rest
IsCovered f start done ahead (Leave id ∷ rest) =
    ((child : ℕ) → IsChild f id child → Contains done child ⊎ Contains ahead child)
    × IsCovered f start done (id ∷ []) rest

-- the ids of a list were done one after another, each once, and after its children
pub record IsDone (f : Body) (start : ℕ) (done : List ℕ) : Type 0 where
  pub once : (i j id : ℕ) → slice_get done i ≡ Some id → slice_get done j ≡ Some id → i ≡ j
  pub reached : All (IsReachable f start) done
  pub known : All (Knows f) done
  pub children_first : (i parent child : ℕ) → slice_get done i ≡ Some parent →
      IsChild f parent child → (k : ℕ) × (k < i) × (slice_get done k ≡ Some child)

-- the marks tell the path and what is done
pub record AreMarks (f : Body) (marks : List Mark) (path done : List ℕ) : Type 0 where
  pub all : length marks ≡ length f.seqs
  pub opened : (id k : ℕ) → slice_get marks id ≡ Some (Open k) → slice_get path k ≡ Some id
  pub on_path : (id k : ℕ) → slice_get path k ≡ Some id → slice_get marks id ≡ Some (Open k)
  pub finished : (id : ℕ) → slice_get marks id ≡ Some Done → Contains done id
  pub in_done : (id : ℕ) → Contains done id → slice_get marks id ≡ Some Done

pub record IsSound (f : Body) (s : State) : Type 0 where
  pub marks : AreMarks f s.marks s.path s.done
  pub known : All (Knows f) s.path
  pub stacked : IsStacked f s.start s.path s.work
  pub covered : IsCovered f s.start s.done [] s.work
  pub listed : IsDone f s.start s.done

-- the work that sequences without a mark bring, where the first of the marks is that of this id
abbrev pub work_ahead : Body → ℕ → List Mark → ℕ
work_ahead f id [] = 0
work_ahead f id (New ∷ marks) = suc (length (children_of f id)) + work_ahead f (suc id) marks
work_ahead f id (Open _ ∷ marks) = work_ahead f (suc id) marks
work_ahead f id (Done ∷ marks) = work_ahead f (suc id) marks

-- how many steps are left
abbrev pub steps_left : Body → State → ℕ
steps_left f s = length s.work + work_ahead f 0 s.marks

-- what a step or a whole check found
abbrev pub Finds : Body → State → Found → Type 0
Finds f s Nothing = IsSound f s
Finds f s (Back place) = ShowsCycle f s.start s.path place
Finds f s (Missing id) = ShowsUnknown f s.start (s.path ++ id ∷ [])
