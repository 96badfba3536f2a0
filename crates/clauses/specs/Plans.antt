-- Plans: which circuit runs in which cycle of a comparison.
use Rattle.std.specs.Prelude.{ℕ, ◌+◌, ◌-◌, ◌≤◌, Bool, true, false, if◌then◌else◌, ◌&&◌, List, [], ◌∷◌, nat_le, nat_lt}
use Rattle.circuits.specs.Net.{Net}
use Rattle.circuits.specs.Sides.{other_side}
use Rattle.comparisons.specs.declared.rule.Rule.{Rule}
use Rattle.comparisons.specs.declared.rule.Rule.TheVariants.{Everywhere, AfterOriginal, FromPins, AfterGated}
use Rattle.comparisons.specs.Table.{row}
use Rattle.comparisons.specs.Clauses.{Formula, pin_literals, given_clauses, last_variable}
use Rattle.comparisons.specs.Opening.{same_sizes}
use Rattle.circuits.specs.declared.side.Side.{Side}
use Rattle.circuits.specs.declared.side.Side.TheVariants.{Original, Gated}
use Rattle.clauses.specs.declared.plan.Half.{Half}
use Rattle.clauses.specs.declared.plan.Half.TheVariants.{Left, Right}
use Rattle.clauses.specs.declared.plan.Row.{Row}
use Rattle.clauses.specs.declared.plan.Plan.{Plan}

-- the circuit that runs in cycle t of a row
abbrev pub side_at : Row → ℕ → Side
side_at r t = if nat_lt t r.turn then r.front else other_side r.front

-- a row of a plan, and the circuit that runs there in cycle t
abbrev pub half_row : Plan → Half → Row
half_row p Left = p.left
half_row p Right = p.right

abbrev pub side_in : Plan → Half → ℕ → Side
side_in p half t = side_at (half_row p half) t

-- the plans of a rule, in order
abbrev pub against_original : ℕ → Row → Bool → Plan
against_original cycles left pinned = record { cycles = cycles; left = left; right = record { front = Original; turn = cycles }; pinned = pinned }

abbrev pub plans : Rule → ℕ → ℕ → List Plan
plans Everywhere n k = against_original (n + k) (record { front = Gated; turn = n }) false ∷ []
plans AfterOriginal n k = against_original (n + k) (record { front = Original; turn = n }) false ∷ []
plans FromPins n k =
    against_original n (record { front = Gated; turn = n }) true ∷ against_original (n + k) (record { front = Original; turn = n }) false ∷ []
plans AfterGated n k =
    record { cycles = n + k; left = record { front = Gated; turn = n }; right = record { front = Gated; turn = n + 1 }; pinned = false } ∷ []

-- a is the original, and b the gated circuit
module _ (a b : Net) where
  abbrev pub on : Side → Net
  on Original = a
  on Gated = b

  -- a row of so many cycles
  abbrev pub row_of : Row → ℕ → List Net
  row_of r cycles = row r.turn (on r.front) (cycles - r.turn) (on (other_side r.front))

  abbrev pub left_of : Plan → List Net
  left_of p = row_of p.left p.cycles

  abbrev pub right_of : Plan → List Net
  right_of p = row_of p.right p.cycles

  -- either row
  abbrev pub half_of : Plan → Half → List Net
  half_of p half = row_of (half_row p half) p.cycles

  -- the start bits that a plan fixes
  abbrev pub fixed_by : Plan → List ℕ
  fixed_by p = if p.pinned then pin_literals a.pins 2 else []

-- rows of 1 to 8 cycles that turn in time
abbrev pub in_time : Plan → Bool
in_time p = nat_le 1 p.cycles && (nat_le p.cycles 8 && (nat_le p.left.turn p.cycles && nat_le p.right.turn p.cycles))

pub record InTime (p : Plan) : Type 0 where
  pub some_cycle : 1 ≤ p.cycles
  pub few_cycles : p.cycles ≤ 8
  pub left_turns : p.left.turn ≤ p.cycles
  pub right_turns : p.right.turn ≤ p.cycles

abbrev pub no_formula : Formula
no_formula = record { variables = 0; given = [] }

-- The clauses of a plan that fixes some start bits. Circuits that are not of the same sizes, and plans that are not in time, have none: opening lets
-- none of these through.
abbrev pub planned : Net → Net → Plan → List ℕ → Formula
planned a b p fixed =
    let I = a.counts.inputs in
    let L = a.counts.flops in
    if same_sizes a.counts b.counts && in_time p
    then record { variables = last_variable I L (left_of a b p) (right_of a b p); given = given_clauses I L fixed (left_of a b p) (right_of a b p) }
    else no_formula
