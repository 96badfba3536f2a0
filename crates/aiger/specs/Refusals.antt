-- The refusals of a netlist's text: their numbers, and the order in which they are told.
use Rattle.std.specs.Prelude.{◌≡◌, ℕ, ◌<◌, ◌≤◌, true, List, [], ◌∷◌}
use Rattle.std.specs.List.{AllByRecursion}
use Rattle.circuits.specs.Checks.{Check}
use Rattle.aiger.specs.declared.fault.Refusal.{Refusal}
use Rattle.aiger.specs.declared.fault.Refusal.TheVariants.{MalformedHeader, WrongCounts, MalformedLine, WrongLiteral, LargeLiteral, WrongPin, FewWords}

abbrev pub number : Refusal → ℕ
number MalformedHeader = 1
number WrongCounts = 2
number MalformedLine = 3
number WrongLiteral = 4
number LargeLiteral = 5
number WrongPin = 6
number FewWords = 7

-- the checks stand in the order of their numbers, which are above n
abbrev pub Rising : ℕ → List (Check Refusal) → Type 0
Rising n [] = Unit {0}
Rising n (c ∷ cs) = (n < number c.0) × Rising (number c.0) cs

-- no check that is due has a lower number than r
abbrev pub Lowest : Refusal → List (Check Refusal) → Type 0
Lowest r cs = AllByRecursion (λ c. c.1 ≡ true → number r ≤ number c.0) cs
