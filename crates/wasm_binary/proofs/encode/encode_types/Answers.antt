use Rattle.std.proofs.Common.{◌≡◌, ℕ, ◌≤◌, List, [], ◌++◌, length, ap, ◌∙◌}
use Rattle.walrus_ty.specs.declared.records.GroupAt.{GroupAt}
use Rattle.wasm_binary.specs.Grammar.{IsTypes}
use Rattle.wasm_binary.specs.Steps.Writing.{vec_text, group_text}
use Rattle.wasm_binary.proofs.Least.{types_least}
use Rattle.wasm_binary.proofs.encode.encode_types.Goals as goal

written_least : (empty out : List ℕ) (groups : List GroupAt) → empty ≡ [] →
    out ≡ empty ++ vec_text group_text groups → (others : List ℕ) → IsTypes others groups →
    length out ≤ length others
written_least empty out groups e f others h =
    let same : out ≡ vec_text group_text groups = f
    ∙ ap (λ (u : List ℕ). u ++ vec_text group_text groups) e in
    rw same (types_least others groups h)

pub returns-clause-shortest : goal.returns-clause-shortest
returns-clause-shortest c =
    written_least c.new-out.result.items c.write_vec.new.out.items c.args.groups.now c.new-out.ensures.items
    c.in_ok-write_vec.ensures.appends
