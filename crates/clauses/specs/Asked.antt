-- The clauses of a comparison, as code answers them: by what a clause is about.
use Rattle.std.specs.Prelude.{ℕ, ◌+◌, ◌-◌, ◌≤◌, List, [], ◌∷◌, slice_index}
use Rattle.circuits.specs.Net.{Net, top, gate_at, next_at, out_at}
use Rattle.comparisons.specs.Clauses.{named, vars, start, input, left_gates, right_gates}
use Rattle.comparisons.specs.Places.{gate_clause, difference_clause, names_at}
use Rattle.clauses.specs.declared.plan.Half.{Half}
use Rattle.clauses.specs.declared.plan.Half.TheVariants.{Left, Right}
use Rattle.clauses.specs.declared.part.GatePart.{GatePart}
use Rattle.clauses.specs.declared.part.GatePart.TheVariants.{ImpliesLeft, ImpliesRight, Implied}
use Rattle.clauses.specs.declared.part.DifferencePart.{DifferencePart}
use Rattle.clauses.specs.Parts.{gate_part, difference_part}
use Rattle.clauses.specs.declared.shape.Spot.{Spot}
use Rattle.clauses.specs.declared.shape.Shape.{Shape}
use Rattle.clauses.specs.declared.shape.Place.{Place}
use Rattle.clauses.specs.declared.shape.Place.TheVariants.{Constant, Gate, Difference as Differing, Differences, Fixed}
use Rattle.clauses.specs.declared.shape.Difference.{Difference}
use Rattle.clauses.specs.declared.shape.Difference.TheVariants.{Output, Final}
use Rattle.clauses.specs.Plans.{side_in, on, left_of, half_of}
use Rattle.clauses.specs.Shapes.{gate_variable, first_difference, difference_at, all_differences}

-- two circuits, the sizes of their comparison, and the literals of the start bits that are fixed
pub record Compared : Type 0 where
  pub original : Net
  pub gated : Net
  pub shape : Shape
  pub fixed : List ℕ

module _ (c : Compared) where
  -- the circuit of cycle t of a row, and a literal of it
  abbrev pub runs : Half → ℕ → Net
  runs half t = on c.original c.gated (side_in c.shape.plan half t)

  abbrev pub OfCycle : Half → ℕ → ℕ → Type 0
  OfCycle half t x = x ≤ top (runs half t).counts

  -- the first variable of the gates of a row
  abbrev pub first_of : Half → ℕ
  first_of Left = left_gates c.shape.original.inputs c.shape.original.flops (left_of c.original c.gated c.shape.plan)
  first_of Right = right_gates c.shape.original.inputs c.shape.original.flops (left_of c.original c.gated c.shape.plan)

  -- the literals of the nets of a cycle; folded, so that proofs compare them without computing them
  unfoldable pub names_in : Half → ℕ → List ℕ
  names_in half t =
      let I = c.shape.original.inputs in
      let L = c.shape.original.flops in names_at (half_of c.original c.gated c.shape.plan half) (start I L) (input I L) (first_of half) t

  -- what a row has there: an output in a cycle, or the final bit of a flop
  abbrev pub compared_of : Half → Difference → ℕ
  compared_of half (Output spot) = named (names_in half spot.cycle) (out_at (runs half spot.cycle) spot.at)
  compared_of half (Final flop) = let last = c.shape.plan.cycles - 1 in named (names_in half last) (next_at (runs half last) flop)

  -- the clause that is about this
  abbrev pub gate_clause_of : Half → Spot → GatePart → List ℕ
  gate_clause_of half spot part =
      let g = gate_at (runs half spot.cycle) spot.at in
      gate_clause (gate_part part) (gate_variable c.shape half spot.cycle spot.at) (named (names_in half spot.cycle) g.0) (named (names_in half spot.cycle) g.1)

  abbrev pub difference_clause_of : ℕ → DifferencePart → List ℕ
  difference_clause_of e part =
      let d = difference_at c.shape e in
      difference_clause (difference_part part) (first_difference c.shape + e) (compared_of Left d) (compared_of Right d)

  abbrev pub clause_of : Place → List ℕ
  clause_of Constant = 3 ∷ []
  clause_of (Gate half spot part) = gate_clause_of half spot part
  clause_of (Differing e part) = difference_clause_of e part
  clause_of Differences = vars (all_differences c.shape) (first_difference c.shape)
  clause_of (Fixed k) = slice_index c.fixed k ∷ []

-- how many literals it has
abbrev pub gate_length : GatePart → ℕ
gate_length ImpliesLeft = 2
gate_length ImpliesRight = 2
gate_length Implied = 3

abbrev pub length_of : Shape → Place → ℕ
length_of s Constant = 1
length_of s (Gate half spot part) = gate_length part
length_of s (Differing e part) = 3
length_of s Differences = all_differences s
length_of s (Fixed k) = 1
