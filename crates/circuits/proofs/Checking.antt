-- Checks one after the other, and what their passing says.
use Rattle.std.proofs.Common.{◌≡◌, true, false, List, [], ◌∷◌, None, Ok, refl, arith}
use Rattle.std.specs.List.{AllByRecursion}
use Rattle.circuits.specs.Checks.{Check, first_due, unless_due}

pub none_from_ok : {X F : Type 0} (cs : List (Check F)) (x y : X) → unless_due cs x ≡ Ok y → first_due cs ≡ None
none_from_ok cs x y e = grind arith

-- each is not due
abbrev pub Passed : {F : Type 0} → List (Check F) → Type 0
Passed = AllByRecursion (λ c. c.1 ≡ false)

module _ {F : Type 0} where
  -- none is due exactly where each is not
  pub all_passed : (cs : List (Check F)) → first_due cs ≡ None → Passed cs
  all_passed [] e = tt
  all_passed ((f, true) ∷ cs) e = cc
  all_passed ((f, false) ∷ cs) e = (refl, all_passed cs e)

  pub none_due : (cs : List (Check F)) → Passed cs → first_due cs ≡ None
  none_due [] a = refl
  none_due ((f, true) ∷ cs) a = cc
  none_due ((f, false) ∷ cs) a = none_due cs a.1
