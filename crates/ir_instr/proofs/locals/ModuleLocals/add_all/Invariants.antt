use Rattle.std.proofs.Common.{◌≡◌, ◌+◌, ◌≤◌, ◌++◌, length, map, drop, vec_len, vec_capacity}
use Rattle.ir_instr.specs.Locals.{unnamed_locals}
use Rattle.ir_instr.proofs.locals.ModuleLocals.add_all.Given as goal

abbrev pub invariant-loop-ty : goal.invariant-loop-ty
invariant-loop-ty l =
    let left = drop l.ty-index l.types in
    let locals = l.self-inside.locals in record {
      added : locals.items ++ unnamed_locals (vec_len locals) left ≡ l.fn.self ++ unnamed_locals
          (length l.fn.self) l.types;
      named : l.ids.items ++ map (λ v. v.id) (unnamed_locals (vec_len locals) left) ≡ map (λ v. v.id)
          (unnamed_locals (length l.fn.self) l.types);
      room : vec_len locals + length left ≤ vec_capacity locals;
      room_named : vec_len l.ids + length left ≤ vec_capacity l.ids;
    }
