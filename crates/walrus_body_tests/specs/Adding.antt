-- What a visitor leaves that adds one to each constant of type i32.
use Rattle.std.specs.Prelude.{pos}
use Rattle.std.specs.Int.{w32, int_wrapping_add}
use Rattle.walrus_ir.specs.ConstantValue.{Value}
use Rattle.walrus_ir.specs.ConstantValue.TheVariants as constant
use Rattle.walrus_ir.specs.Hooks.{Hook, Given, visit_value}

-- a constant of type i32 is one greater, and the greatest becomes the least; others stay
abbrev pub plus_one : Value → Value
plus_one (constant.I32 n) = constant.I32 (int_wrapping_add w32 n (pos 1))
plus_one v = v

-- the value of a constant has one added, and nothing else changes
abbrev pub adding_at : (hook : Hook) → Given hook → Given hook
adding_at visit_value v = plus_one v
adding_at _ x = x
