-- Locals are equal where the parts that `Hash` looks at are.
use Rattle.std.proofs.Common.{◌≡◌, ℕ, Bool, true, false, ◌&&◌, List, Option, Some, None, refl, ap, eq-eqb, eqb-true, IsTrue, ◌↔◌, string_eq, string_bytes}
use Rattle.std.specs.Option.{option_eq, option_map}
use Rattle.std.proofs.lemmas.Slice.Eq.{bytes_eq-Decides}
use Rattle.std.specs.declared.string.String.{String}
use Rattle.std.specs.declared.alloc.Global.{Global}
use Rattle.walrus_ty.specs.declared.ty.value.Val.{Val}
use Rattle.walrus_ty.proofs.Basics.{and_left, and_right}
use Rattle.walrus_ty.proofs.Equality.Values.{val_same}
use Rattle.ir_instr.specs.contracts.locals.LocalPartialEq.TheImpl as local_equality
use Rattle.ir_instr.specs.LocalParts.{LocalParts, local_parts}
use Rattle.ir_instr.specs.Locals.{LocalVariable}

abbrev local_eq : LocalVariable → LocalVariable → Bool
local_eq = (local_equality.ghosts).eq

abbrev Name : Type 0
Name = Option (String Global)

names_exact : (o p : Name) →
    option_eq string_eq o p ≡ true → option_map string_bytes o ≡ option_map string_bytes p
names_exact None None h = refl
names_exact None (Some t) h = cc
names_exact (Some s) None h = cc
names_exact (Some s) (Some t) h = ap (λ (bytes : List ℕ). Some bytes)
    ((bytes_eq-Decides (string_bytes s) (string_bytes t)).0 h)

names_equal : (o p : Name) →
    option_map string_bytes o ≡ option_map string_bytes p → option_eq string_eq o p ≡ true
names_equal None None h = refl
names_equal None (Some t) h = cc
names_equal (Some s) None h = cc
names_equal (Some s) (Some t) h = (bytes_eq-Decides (string_bytes s) (string_bytes t)).1 cc

both_true : (a b : Bool) → a ≡ true → b ≡ true → (a && b) ≡ true
both_true true b h k = k
both_true false b h k = h

abbrev parts : ℕ → Val ℕ → Option (List ℕ) → LocalParts
parts i v o = record { id = i; ty = v; name = o }

parts_equal : (i j : ℕ) (v w : Val ℕ) (o p : Option (List ℕ)) →
    i ≡ j → v ≡ w → o ≡ p → parts i v o ≡ parts j w p
parts_equal i j v w o p h k l = cc

exact : (l m : LocalVariable) → local_eq l m ≡ true → local_parts l ≡ local_parts m
exact l m h =
    let rest = and_right _ _ h in
    parts_equal l.id m.id l.ty m.ty _ _ (eqb-true l.id m.id (and_left _ _ h))
    ((val_same l.ty m.ty).0 (and_left _ _ rest)) (names_exact l.name m.name (and_right _ _ rest))

equal : (l m : LocalVariable) → local_parts l ≡ local_parts m → local_eq l m ≡ true
equal l m h =
    both_true _ _ (eq-eqb l.id m.id (ap (λ (p : LocalParts). p.id) h))
    (both_true _ _ ((val_same l.ty m.ty).1 (ap (λ (p : LocalParts). p.ty) h))
    (names_equal l.name m.name (ap (λ (p : LocalParts). p.name) h)))

pub locals_equal : (l m : LocalVariable) → (IsTrue (local_eq l m) ↔ (local_parts l ≡ local_parts m))
locals_equal l m = (exact l m, equal l m)
