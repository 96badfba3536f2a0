-- What holds of the comparisons of two circuits that a rule can compare.
use Rattle.std.specs.Prelude.{◌≡◌, ℕ, ◌≤◌, ◌↔◌, List, Some, None}
use Rattle.std.specs.List.{AllByRecursion}
use Rattle.circuits.specs.Checks.{first_due}
use Rattle.circuits.specs.Net.{Net}
use Rattle.comparisons.specs.declared.fault.OpenFault.TheVariants.{ManyVariables}
use Rattle.comparisons.specs.declared.rule.Rule.{Rule}
use Rattle.comparisons.specs.Table.{Comparison, EqualRows, comparisons, Verdict, AllEqual, InTable, Alike}
use Rattle.comparisons.specs.Clauses.{Refutable, pin_literals, formula}
use Rattle.comparisons.specs.Places.{NetsNamed, BitsNamed, Placed, PinsPlaced}
use Rattle.comparisons.specs.Opening.{rule_of, open_checks}

-- no valuation satisfies the clauses of a comparison exactly where it is equal
abbrev pub ClausesDecide : Comparison → Type 0
ClausesDecide c = Refutable (formula c).given ↔ EqualRows c

-- the rule can compare the circuits at these depths
pub record Comparable (rule : Rule) (n k : ℕ) (a b : Net) : Type 0 where
  pub alike : Alike rule a b
  pub in_table : InTable rule n k

pub record Compares (rule : Rule) (n k : ℕ) (a b : Net) : Type 0 where
  -- where all comparisons are equal, the verdict is true
  pub sound : AllEqual a b rule n k → Verdict a b rule n k
  pub clauses_decide : AllByRecursion ClausesDecide (comparisons a b rule n k)
  -- each clause has its number, each net and each bit its variable
  pub placed : AllByRecursion (λ c. Placed c.inputs c.flops a.counts.outputs (pin_literals c.pins 2) c.left c.right) (comparisons a b rule n k)
  pub nets_named : (net : Net) (s w : List ℕ) (z : ℕ) → NetsNamed net s w z
  pub bits_named : BitsNamed a.counts.inputs a.counts.flops
  pub pins_placed : PinsPlaced a.pins
  -- no bounded circuits bring on more variables
  pub few_variables : AllByRecursion (λ c. (formula c).variables ≤ 135681) (comparisons a b rule n k)

-- No check is due exactly where there is a rule of this number that can compare the circuits. The last check is never told.
pub record OpensComparable (rule n k : ℕ) (a b : Net) : Type 0 where
  pub decides : (first_due (open_checks a b (rule_of rule) n k) ≡ None) ↔ ((r : Rule) × ((rule_of rule ≡ Some r) × Comparable r n k a b))
  pub few_enough : first_due (open_checks a b (rule_of rule) n k) ≡ Some ManyVariables → ⊥
  pub compares : (r : Rule) → rule_of rule ≡ Some r → Comparable r n k a b → Compares r n k a b
