-- What opening a case answers, and what its checks decide.
use Rattle.std.specs.Prelude.{ℕ, zero, suc, ◌+◌, Bool, true, false, not, ◌&&◌, List, [], ◌∷◌, map, Some, None, Option, Result, ◌==◌, nat_le}
use Rattle.circuits.specs.declared.counts.Counts.{Counts}
use Rattle.circuits.specs.Checks.{Check, unless_due}
use Rattle.circuits.specs.Net.{Net}
use Rattle.comparisons.specs.declared.fault.OpenFault.{OpenFault}
use Rattle.comparisons.specs.declared.fault.OpenFault.TheVariants.{SizesDiffer, OutsideTable, PinsDiffer, ManyVariables}
use Rattle.comparisons.specs.declared.rule.Rule.{Rule}
use Rattle.comparisons.specs.declared.rule.Rule.TheVariants.{Everywhere, AfterOriginal, FromPins, AfterGated}
use Rattle.comparisons.specs.Table.{comparisons}
use Rattle.comparisons.specs.Clauses.{Formula, formula}

-- the rule of a number
abbrev pub rule_of : ℕ → Option Rule
rule_of zero = None
rule_of (suc zero) = Some Everywhere
rule_of (suc (suc zero)) = Some AfterOriginal
rule_of (suc (suc (suc zero))) = Some FromPins
rule_of (suc (suc (suc (suc zero)))) = Some AfterGated
rule_of (suc (suc (suc (suc (suc r))))) = None

-- as many inputs, flops and outputs
abbrev pub same_sizes : Counts → Counts → Bool
same_sizes c d = c.inputs == d.inputs && (c.flops == d.flops && c.outputs == d.outputs)

-- the depths that the table has for a rule
abbrev pub deep_enough : Rule → ℕ → ℕ → Bool
deep_enough Everywhere n k = nat_le 1 n
deep_enough AfterOriginal n k = nat_le 1 k
deep_enough FromPins n k = nat_le 1 n && nat_le 1 k
deep_enough AfterGated n k = nat_le 1 k

abbrev pub in_table : Option Rule → ℕ → ℕ → Bool
in_table None n k = false
in_table (Some rule) n k = deep_enough rule n k && nat_le (n + k) 8

-- a rule that starts from the pins
abbrev pub uses_pins : Option Rule → Bool
uses_pins None = false
uses_pins (Some Everywhere) = false
uses_pins (Some AfterOriginal) = false
uses_pins (Some FromPins) = true
uses_pins (Some AfterGated) = false

abbrev pub same_list : List ℕ → List ℕ → Bool
same_list [] [] = true
same_list [] (y ∷ ys) = false
same_list (x ∷ xs) [] = false
same_list (x ∷ xs) (y ∷ ys) = x == y && same_list xs ys

-- the clauses of each comparison of a rule
abbrev pub formulas : Net → Net → Option Rule → ℕ → ℕ → List Formula
formulas a b None n k = []
formulas a b (Some rule) n k = map formula (comparisons a b rule n k)

abbrev pub few_variables : List Formula → Bool
few_variables [] = true
few_variables (f ∷ fs) = nat_le f.variables 262143 && few_variables fs

abbrev pub open_checks : Net → Net → Option Rule → ℕ → ℕ → List (Check OpenFault)
open_checks a b rule n k =
    (SizesDiffer, not (same_sizes a.counts b.counts))
    ∷ (OutsideTable, not (in_table rule n k))
    ∷ (PinsDiffer, uses_pins rule && not (same_list a.pins b.pins))
    ∷ (ManyVariables, not (few_variables (formulas a b rule n k))) ∷ []

-- the clauses of each comparison, or the first check that is due
abbrev pub opening : Net → Net → ℕ → ℕ → ℕ → Result (List Formula) OpenFault
opening a b rule n k = unless_due (open_checks a b (rule_of rule) n k) (formulas a b (rule_of rule) n k)
