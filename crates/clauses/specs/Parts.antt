-- The place of a clause among those of its gate, and among those of its difference.
use Rattle.std.specs.Prelude.{ℕ}
use Rattle.clauses.specs.declared.part.GatePart.{GatePart}
use Rattle.clauses.specs.declared.part.GatePart.TheVariants.{ImpliesLeft, ImpliesRight, Implied}
use Rattle.clauses.specs.declared.part.DifferencePart.{DifferencePart}
use Rattle.clauses.specs.declared.part.DifferencePart.TheVariants.{OneTrue, OneFalse}

abbrev pub gate_part : GatePart → ℕ
gate_part ImpliesLeft = 0
gate_part ImpliesRight = 1
gate_part Implied = 2

abbrev pub difference_part : DifferencePart → ℕ
difference_part OneTrue = 0
difference_part OneFalse = 1
