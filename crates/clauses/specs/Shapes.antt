-- The sizes of a comparison in numbers, as code sees them.
use Rattle.std.specs.Prelude.{◌≡◌, ℕ, ◌+◌, ◌-◌, ◌*◌, ◌/◌, ◌%◌, ◌<◌, min, if◌then◌else◌, ◌⊎◌, List, length, Option, MatchOption, ◌==◌, nat_le, nat_lt}
use Rattle.circuits.specs.declared.counts.Counts.{Counts}
use Rattle.circuits.specs.declared.side.Side.{Side}
use Rattle.circuits.specs.declared.side.Side.TheVariants.{Original, Gated}
use Rattle.clauses.specs.declared.plan.Half.{Half}
use Rattle.clauses.specs.declared.plan.Half.TheVariants.{Left, Right}
use Rattle.clauses.specs.declared.shape.Spot.{Spot}
use Rattle.clauses.specs.declared.shape.Shape.{Shape}
use Rattle.clauses.specs.declared.shape.Place.{Place}
use Rattle.clauses.specs.declared.shape.Place.TheVariants.{Constant, Gate, Difference as Differing, Differences, Fixed}
use Rattle.clauses.specs.declared.shape.Difference.{Difference}
use Rattle.clauses.specs.declared.shape.Difference.TheVariants.{Output, Final}
use Rattle.circuits.specs.Sides.{other_side}
use Rattle.clauses.specs.Parts.{gate_part, difference_part}
use Rattle.clauses.specs.Plans.{half_row, side_in}

-- the sizes of circuits of these counts, where these start bits are fixed
pub record AreSizes (original gated : Counts) (fixed : List ℕ) (s : Shape) : Type 0 where
  pub of_original : s.original ≡ original
  pub of_gated : s.gated ≡ gated
  pub of_fixed : s.fixed ≡ length fixed

module _ (s : Shape) where
  -- the gates of the circuit of a side, of the one that runs in cycle t, and of the first t cycles of a row
  abbrev pub gates_on : Side → ℕ
  gates_on Original = s.original.gates
  gates_on Gated = s.gated.gates

  abbrev pub gates_in : Half → ℕ → ℕ
  gates_in half t = gates_on (side_in s.plan half t)

  abbrev pub gates_before : Half → ℕ → ℕ
  gates_before half t =
      let r = half_row s.plan half in min t r.turn * gates_on r.front + (t - r.turn) * gates_on (other_side r.front)

  -- the gates of a row, of the rows before, and of both rows
  abbrev pub gates_in_row : Half → ℕ
  gates_in_row half = gates_before half s.plan.cycles

  abbrev pub gates_ahead : Half → ℕ
  gates_ahead Left = 0
  gates_ahead Right = gates_in_row Left

  abbrev pub all_gates : ℕ
  all_gates = gates_in_row Left + gates_in_row Right

  -- gate g of a row stands there
  pub record Spots (half : Half) (g : ℕ) (spot : Spot) : Type 0 where
    pub in_row : spot.cycle < s.plan.cycles
    pub in_cycle : spot.at < gates_in half spot.cycle
    pub is : gates_before half spot.cycle + spot.at ≡ g

  -- the differences: the outputs of each cycle, and the final bits
  abbrev pub all_outputs : ℕ
  all_outputs = s.plan.cycles * s.original.outputs

  abbrev pub all_differences : ℕ
  all_differences = all_outputs + s.original.flops

  -- what rows of these sizes are compared at
  abbrev pub IsDifferenceOf : Difference → Type 0
  IsDifferenceOf (Output spot) = (spot.cycle < s.plan.cycles) × (spot.at < s.original.outputs)
  IsDifferenceOf (Final flop) = flop < s.original.flops

  -- difference e, and back its number
  abbrev pub difference_at : ℕ → Difference
  difference_at e =
      let outs = s.original.outputs in
      if nat_lt e all_outputs then Output (record { cycle = e / outs; at = e % outs }) else Final (e - all_outputs)

  abbrev pub difference_number : Difference → ℕ
  difference_number (Output spot) = spot.cycle * s.original.outputs + spot.at
  difference_number (Final flop) = all_outputs + flop

  -- d is the one difference of number e
  pub record OnlyOfNumber (e : ℕ) (d : Difference) : Type 0 where
    pub number : difference_number d ≡ e
    pub only : (other : Difference) → IsDifferenceOf other → difference_number other ≡ e → other ≡ d

  -- variables
  abbrev pub first_gate : ℕ
  first_gate = 2 + s.original.flops + s.plan.cycles * s.original.inputs

  abbrev pub gate_variable : Half → ℕ → ℕ → ℕ
  gate_variable half t at = first_gate + gates_ahead half + gates_before half t + at

  abbrev pub first_difference : ℕ
  first_difference = first_gate + all_gates

  abbrev pub all_variables : ℕ
  all_variables = first_difference + all_differences - 1

  abbrev pub all_clauses : ℕ
  all_clauses = 2 + 3 * all_gates + 2 * all_differences + s.fixed

  -- what literal x of cycle t is, unless it names a flop after cycle 0
  abbrev pub own_variable : Half → ℕ → ℕ → ℕ
  own_variable half t net =
      let I = s.original.inputs in
      let L = s.original.flops in
      if net == 0 then 1
      else (if nat_le net I then 1 + L + t * I + net
      else (if nat_le net (I + L) then 1 + net - I
      else gate_variable half t (net - (1 + I + L))))

  abbrev pub own_literal : Half → ℕ → ℕ → ℕ
  own_literal half t x = 2 * own_variable half t (x / 2) + x % 2

  -- clause c is about this
  abbrev pub Stands : ℕ → Place → Type 0
  Stands c Constant = c ≡ 1
  Stands c (Gate half spot part) =
      (spot.cycle < s.plan.cycles) × (spot.at < gates_in half spot.cycle)
      × (c ≡ 2 + 3 * (gates_ahead half + (gates_before half spot.cycle + spot.at)) + gate_part part)
  Stands c (Differing e part) = (e < all_differences) × (c ≡ 2 + 3 * all_gates + 2 * e + difference_part part)
  Stands c Differences = c ≡ 2 + 3 * all_gates + 2 * all_differences
  Stands c (Fixed k) = (k < s.fixed) × (c ≡ 3 + 3 * all_gates + 2 * all_differences + k)

  -- what clause c is about, or none where no clause has this number
  abbrev pub IsPlaceOf : ℕ → Option Place → Type 0
  IsPlaceOf c place = MatchOption place ((c ≡ 0) ⊎ (all_clauses < c)) (Stands c)
