-- Which clause has which number, and which literals are in it.
use Rattle.std.specs.Prelude.{◌≡◌, ℕ, zero, suc, ◌+◌, ◌*◌, ◌<◌, List, [], ◌∷◌, length, get_or, take, slice_index, slice_index_or}
use Rattle.circuits.specs.Held.{blank}
use Rattle.circuits.specs.Net.{Net, gate_at, next_at, out_at}
use Rattle.comparisons.specs.Clauses.{negated, clause_at, off, named, names, next_names, vars, gate_count, pin_literals, start, input, left_gates, right_gates, differences, left_results, right_results, given_clauses, last_variable}

-- clause r, from 0, of a gate with variable z, whose operands are the literals a and b
abbrev pub gate_clause : ℕ → ℕ → ℕ → ℕ → List ℕ
gate_clause zero z a b = (2 * z + 1) ∷ a ∷ []
gate_clause (suc zero) z a b = (2 * z + 1) ∷ b ∷ []
gate_clause (suc (suc r)) z a b = 2 * z ∷ negated a ∷ negated b ∷ []

-- clause r, from 0, of a difference with variable d, of the literals u and w
abbrev pub difference_clause : ℕ → ℕ → ℕ → ℕ → List ℕ
difference_clause zero d u w = (2 * d + 1) ∷ u ∷ w ∷ []
difference_clause (suc r) d u w = (2 * d + 1) ∷ negated u ∷ negated w ∷ []

-- the circuit of cycle t of a row
abbrev pub net_at : List Net → ℕ → Net
net_at row t = slice_index_or row t blank

-- A row from the literals s of the flops, with the literals ws t of the inputs in cycle t; the variables of its gates start at z.
module _ (row : List Net) (s : List ℕ) (ws : ℕ → List ℕ) (z : ℕ) where
  -- the first variable of a gate of cycle t
  abbrev pub cycle_at : ℕ → ℕ
  cycle_at t = z + gate_count (take t row)

  -- the literals of the flops in cycle t
  abbrev pub flops_at : ℕ → List ℕ
  flops_at zero = s
  flops_at (suc t) = next_names (net_at row t) (flops_at t) (ws t) (cycle_at t)

  -- the literal of every net in cycle t
  abbrev pub names_at : ℕ → List ℕ
  names_at t = names (net_at row t) (flops_at t) (ws t) (cycle_at t)

-- in a cycle net 0 is off, then come the inputs, the flops and the gates
pub record NetsNamed (net : Net) (s w : List ℕ) (z : ℕ) : Type 0 where
  pub of_off : get_or (names net s w z) 0 off ≡ off
  pub of_input : (i : ℕ) → i < net.counts.inputs → slice_index_or (names net s w z) (1 + i) off ≡ slice_index_or w i off
  pub of_flop : (j : ℕ) → j < net.counts.flops → slice_index_or (names net s w z) (1 + net.counts.inputs + j) off ≡ slice_index_or s j off
  pub of_gate : (g : ℕ) → g < length net.operands
      → slice_index_or (names net s w z) (1 + net.counts.inputs + net.counts.flops + g) off ≡ 2 * (z + g)

-- Start bit j is variable 2 + j, and input i of cycle t is variable 2 + L + t I + i.
pub record BitsNamed (inputs flops : ℕ) : Type 0 where
  pub of_start : (j : ℕ) → j < flops → slice_index_or (start inputs flops) j off ≡ 2 * (2 + j)
  pub of_input : (t i : ℕ) → i < inputs → slice_index_or (input inputs flops t) i off ≡ 2 * (2 + flops + t * inputs + i)

-- One row among all the clauses: it has q gates before it, the variables of its gates start at z, and so many outputs are compared in a cycle.
pub record RowPlaced (inputs flops outs : ℕ) (clauses : List (List ℕ)) (row : List Net) (q z : ℕ) (results : List ℕ) : Type 0 where
  -- gate i of cycle t
  pub gate : (t i r : ℕ) → t < length row → i < length (net_at row t).operands → r < 3
      → let g = gate_count (take t row) + i in
      let nets = names_at row (start inputs flops) (input inputs flops) z t in
      clause_at clauses (2 + 3 * (q + g) + r)
      ≡ gate_clause r (z + g) (named nets (gate_at (net_at row t) i).0) (named nets (gate_at (net_at row t) i).1)
  -- what is compared: output j of cycle t, and bit j of the final state
  pub output : (t j : ℕ) → t < length row → j < outs
      → slice_index_or results (t * outs + j) off ≡ named (names_at row (start inputs flops) (input inputs flops) z t) (out_at (net_at row t) j)
  pub final : (j : ℕ) → slice_index_or results (length row * outs + j) off ≡ slice_index_or (flops_at row (start inputs flops) (input inputs flops) z (length row)) j off
  -- a flop is its start bit, and later what its next literal is in the cycle before
  pub flop_later : (t j : ℕ) → t < length row → j < flops
      → slice_index_or (flops_at row (start inputs flops) (input inputs flops) z (suc t)) j off
      ≡ named (names_at row (start inputs flops) (input inputs flops) z t) (next_at (net_at row t) j)

-- The clauses of two rows, with T gates and m differences in all.
pub record Placed (inputs flops outs : ℕ) (fixed : List ℕ) (left right : List Net) : Type 0 where
  pub constant : clause_at (given_clauses inputs flops fixed left right) 1 ≡ 3 ∷ []
  pub of_left : RowPlaced inputs flops outs (given_clauses inputs flops fixed left right) left 0 (left_gates inputs flops left) (left_results inputs flops left)
  pub of_right : RowPlaced inputs flops outs (given_clauses inputs flops fixed left right) right (gate_count left) (right_gates inputs flops left)
      (right_results inputs flops left right)
  pub difference : (e r : ℕ) → e < length left * outs + flops → r < 2
      → clause_at (given_clauses inputs flops fixed left right) (2 + 3 * (gate_count left + gate_count right) + 2 * e + r)
      ≡ difference_clause r (differences inputs flops left right + e) (slice_index_or (left_results inputs flops left) e off) (slice_index_or (right_results inputs flops left right) e off)
  pub all_differences :
      let T = gate_count left + gate_count right in
      let m = length left * outs + flops in
      clause_at (given_clauses inputs flops fixed left right) (2 + 3 * T + 2 * m) ≡ vars m (differences inputs flops left right)
  pub fixed_bit : (k : ℕ) → k < length fixed
      → let T = gate_count left + gate_count right in
      let m = length left * outs + flops in
      clause_at (given_clauses inputs flops fixed left right) (3 + 3 * T + 2 * m + k) ≡ slice_index fixed k ∷ []
  -- the last variable and the number of clauses
  pub variables :
      let T = gate_count left + gate_count right in
      last_variable inputs flops left right ≡ 1 + flops + length left * inputs + T + (length left * outs + flops)
  pub clauses :
      let T = gate_count left + gate_count right in
      length (given_clauses inputs flops fixed left right) ≡ 2 + 3 * T + 2 * (length left * outs + flops) + length fixed

-- how many of the flops are pinned
abbrev pub pinned : List ℕ → ℕ
pinned [] = 0
pinned (zero ∷ pins) = suc (pinned pins)
pinned (suc zero ∷ pins) = suc (pinned pins)
pinned (suc (suc p) ∷ pins) = pinned pins

-- of the pinned flops in order, each has its literal
pub record PinsPlaced (pins : List ℕ) : Type 0 where
  pub of_0 : (j : ℕ) → slice_index_or pins j 2 ≡ 0 → slice_index (pin_literals pins 2) (pinned (take j pins)) ≡ 2 * (2 + j) + 1
  pub of_1 : (j : ℕ) → slice_index_or pins j 2 ≡ 1 → slice_index (pin_literals pins 2) (pinned (take j pins)) ≡ 2 * (2 + j)
  pub as_many : length (pin_literals pins 2) ≡ pinned pins
