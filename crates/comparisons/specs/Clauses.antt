-- The given clauses of a comparison: they can all hold exactly where its two rows differ.
use Rattle.std.specs.Prelude.{◌≡◌, ℕ, zero, suc, ◌+◌, ◌-◌, ◌*◌, ◌/◌, ◌%◌, Bool, true, false, not, ◌||◌, List, [], ◌∷◌, ◌++◌, map, length, slice_index_or}
use Rattle.std.specs.List.{AllByRecursion}
use Rattle.circuits.specs.Net.{Net, turned, pick, before}
use Rattle.comparisons.specs.Table.{Comparison}

-- Literal 2v is variable v, and 2v + 1 its negation.
abbrev pub negated : ℕ → ℕ
negated l = 2 * (l / 2) + (1 - l % 2)

abbrev pub holds : (ℕ → Bool) → ℕ → Bool
holds v l = turned not (l % 2) (v (l / 2))

-- a clause holds if one of its literals does
abbrev pub holds_in : (ℕ → Bool) → List ℕ → Bool
holds_in v [] = false
holds_in v (l ∷ clause) = holds v l || holds_in v clause

abbrev pub Satisfies : (ℕ → Bool) → List (List ℕ) → Type 0
Satisfies v clauses = AllByRecursion (λ c. holds_in v c ≡ true) clauses

-- no valuation satisfies them
abbrev pub Refutable : List (List ℕ) → Type 0
Refutable clauses = (v : ℕ → Bool) → Satisfies v clauses → ⊥

-- clauses over the variables 1, 2, .. up to the last
pub record Formula : Type 0 where
  pub variables : ℕ
  pub given : List (List ℕ)

-- the clause of a number; clauses count from 1, and other numbers name the clause of no literals
abbrev pub clause_at : List (List ℕ) → ℕ → List ℕ
clause_at clauses zero = []
clause_at clauses (suc c) = slice_index_or clauses c []

-- Variable 1 is false: the literal of net 0, and of a net that is missing.
abbrev pub off : ℕ
off = 2

-- n variables from z on
abbrev pub vars : ℕ → ℕ → List ℕ
vars zero z = []
vars (suc n) z = 2 * z ∷ vars n (suc z)

-- In a cycle each net has a literal. What literal x of the circuit is, where the nets are these literals:
abbrev pub named : List ℕ → ℕ → ℕ
named = pick negated off

-- the literal of every net, from those of the flops and of the inputs, where the variables of the gates start at z
abbrev pub names : Net → List ℕ → List ℕ → ℕ → List ℕ
names net s w z = before off net.counts s w ++ vars (length net.operands) z

-- those of the flops in the cycle after: the next literals
abbrev pub next_names : Net → List ℕ → List ℕ → ℕ → List ℕ
next_names net s w z = map (named (names net s w z)) net.nexts

-- three clauses for each gate, that its variable is the AND of its operands
abbrev pub gate_clauses : List (ℕ × ℕ) → List ℕ → ℕ → List (List ℕ)
gate_clauses [] nets z = []
gate_clauses ((x, y) ∷ gates) nets z =
    let a = named nets x in
    let b = named nets y in
    ((2 * z + 1) ∷ a ∷ []) ∷ ((2 * z + 1) ∷ b ∷ []) ∷ (2 * z ∷ negated a ∷ negated b ∷ []) ∷ gate_clauses gates (nets ++ 2 * z ∷ []) (suc z)

-- A row, cycle by cycle, from the literals s of the flops, with the literals ws t of the inputs in cycle t; the variables of its gates start at z.
abbrev pub row_clauses : List Net → List ℕ → (ℕ → List ℕ) → ℕ → List (List ℕ)
row_clauses [] s ws z = []
row_clauses (net ∷ row) s ws z =
    gate_clauses net.operands (before off net.counts s (ws 0)) z
    ++ row_clauses row (next_names net s (ws 0) z) (λ t. ws (suc t)) (z + length net.operands)

-- what is compared of it: its outputs, cycle by cycle, and then its final state
abbrev pub row_results : List Net → List ℕ → (ℕ → List ℕ) → ℕ → List ℕ
row_results [] s ws z = s
row_results (net ∷ row) s ws z =
    map (named (names net s (ws 0) z)) net.outs
    ++ row_results row (next_names net s (ws 0) z) (λ t. ws (suc t)) (z + length net.operands)

abbrev pub gate_count : List Net → ℕ
gate_count [] = 0
gate_count (net ∷ row) = length net.operands + gate_count row

-- two clauses for each difference: variable d, and those after it, are true only where the two results differ
abbrev pub difference_clauses : List ℕ → List ℕ → ℕ → List (List ℕ)
difference_clauses [] ws d = []
difference_clauses (u ∷ us) [] d = []
difference_clauses (u ∷ us) (w ∷ ws) d =
    ((2 * d + 1) ∷ u ∷ w ∷ []) ∷ ((2 * d + 1) ∷ negated u ∷ negated w ∷ []) ∷ difference_clauses us ws (suc d)

-- the literal of each flop that is pinned, in order; the first flop is variable z
abbrev pub pin_literals : List ℕ → ℕ → List ℕ
pin_literals [] z = []
pin_literals (zero ∷ pins) z = (2 * z + 1) ∷ pin_literals pins (suc z)
pin_literals (suc zero ∷ pins) z = 2 * z ∷ pin_literals pins (suc z)
pin_literals (suc (suc p) ∷ pins) z = pin_literals pins (suc z)

-- Variables: the constant, the start bits, the inputs cycle by cycle, the gates of the left row and of the right one, the differences.
module _ (inputs flops : ℕ) where
  abbrev pub start : List ℕ
  start = vars flops 2

  abbrev pub input : ℕ → List ℕ
  input t = vars inputs (2 + flops + t * inputs)

  -- the first variables of the gates and of the differences
  abbrev pub left_gates : List Net → ℕ
  left_gates left = 2 + flops + length left * inputs

  abbrev pub right_gates : List Net → ℕ
  right_gates left = left_gates left + gate_count left

  abbrev pub differences : List Net → List Net → ℕ
  differences left right = right_gates left + gate_count right

  abbrev pub left_results : List Net → List ℕ
  left_results left = row_results left start input (left_gates left)

  abbrev pub right_results : List Net → List Net → List ℕ
  right_results left right = row_results right start input (right_gates left)

  -- Clauses: the constant, the gates, the differences, that there is a difference, and a literal for each bit of the start that is fixed.
  abbrev pub given_clauses : List ℕ → List Net → List Net → List (List ℕ)
  given_clauses fixed left right =
      (3 ∷ []) ∷ (row_clauses left start input (left_gates left) ++ row_clauses right start input (right_gates left)
      ++ difference_clauses (left_results left) (right_results left right) (differences left right)
      ++ (vars (length (left_results left)) (differences left right) ∷ []) ++ map (λ l. l ∷ []) fixed)

  abbrev pub last_variable : List Net → List Net → ℕ
  last_variable left right = differences left right + length (left_results left) - 1

abbrev pub formula : Comparison → Formula
formula c = record {
  variables = last_variable c.inputs c.flops c.left c.right;
  given = given_clauses c.inputs c.flops (pin_literals c.pins 2) c.left c.right;
}
