-- Checks in the order in which they are made.
use Rattle.std.specs.Prelude.{Bool, cond, List, [], ◌∷◌, Some, None, Ok, Err, Option, Result}

-- A check is what it tells, and whether it is due. The first that is due is told.
abbrev pub Check : Type 0 → Type 0
Check F = F × Bool

abbrev pub first_due : {F : Type 0} → List (Check F) → Option F
first_due [] = None
first_due (c ∷ cs) = cond c.1 (Some c.0) (first_due cs)

-- x where no check is due, else what the first that is due tells
abbrev pub unless_due : {X F : Type 0} → List (Check F) → X → Result X F
unless_due cs x = elim (first_due cs) [ None ↦ Ok x | Some f ↦ Err f ]
