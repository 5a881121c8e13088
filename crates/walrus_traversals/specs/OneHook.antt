-- Visitors that look at one kind of what walks report.
use Rattle.std.specs.Prelude.{◌≡◌, List, Option, None, Some, flat_map, option_to_list}
use Rattle.walrus_ir.specs.Calls.{Event}

-- the step at what is given, and none where nothing is
abbrev pub step_of : {V A : Type 0} → (V → A → V → Type 0) → V → Option A → V → Type 0
step_of step v (Some x) w = step v x w
step_of step v None w = w ≡ v

-- the step at what an event gives
abbrev pub step_at :
    {V A : Type 0} → (Event → Option A) → (V → A → V → Type 0) → V → Event → V → Type 0
step_at given step v e w = step_of step v (given e) w

-- what events give, in their order
abbrev pub all_given : {A : Type 0} → (Event → Option A) → List Event → List A
all_given given = flat_map (λ e. option_to_list (given e))
