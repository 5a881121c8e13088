-- The types that a function uses, as they are listed.
use Rattle.std.specs.Prelude.{◌≡◌, ℕ, List, [], ◌∷◌, ◌++◌}
use Rattle.std.specs.List.{flat_map}
use Rattle.walrus_ty.specs.Definition.{supertype_names}
use Rattle.ir_instr.specs.BlockTypes.{block_type_name}
use Rattle.ir_instr.specs.Locals.{LocalVariable}
use Rattle.ir_instr.specs.Sequence.{Sequence}
use Rattle.walrus_functions.specs.Body.{sequence}
use Rattle.walrus_functions.specs.FunctionWithArgs.{FunctionWithArgs}
use Rattle.walrus_traversals.specs.declared.id_visitor.AnyId.{AnyId}
use Rattle.walrus_traversals.specs.declared.id_visitor.AnyId.TheVariants as any
use Rattle.walrus_passes.specs.UsedTypes.{local_types, instr_types}
use Rattle.walrus_passes.specs.declared.roots.Roots.{Roots}

-- the types that an id names that a walk reports
abbrev pub id_types : List LocalVariable → AnyId → List ℕ
id_types locals (any.Type id) = id ∷ []
id_types locals (any.Local id) = local_types locals id
id_types locals _ = []

-- these types were listed behind the others
pub record Lists (old : Roots) (types : List ℕ) (new : Roots) : Type 0 where
  pub locals : new.locals.now ≡ old.locals.now
  pub used : new.used ≡ old.used ++ types

-- the types of a sequence
abbrev pub seq_types : List LocalVariable → Sequence → List ℕ
seq_types locals s =
    supertype_names (block_type_name s.ty) ++ flat_map (λ x. instr_types locals x.0) s.instrs

-- the types of a function whose body is these sequences
abbrev pub function_types : List LocalVariable → FunctionWithArgs → List ℕ → List ℕ
function_types locals f seqs =
    (f.body.ty ∷ flat_map (local_types locals) f.args)
    ++ flat_map (λ id. seq_types locals (sequence f.body id)) seqs
