-- Small circuits, and what holds of their comparisons.
use Rattle.std.specs.Prelude.{◌≡◌, ℕ, Bool, true, false, List, [], ◌∷◌, map, length, slice_index_or}
use Rattle.circuits.specs.declared.counts.Counts.{Counts}
use Rattle.circuits.specs.Net.{Net, Bounded}
use Rattle.comparisons.specs.declared.rule.Rule.{Rule}
use Rattle.comparisons.specs.declared.rule.Rule.TheVariants.{Everywhere, FromPins}
use Rattle.comparisons.specs.Machine.{output_at, outputs, final, machine}
use Rattle.comparisons.specs.Table.{Comparison, from_all, comparisons, EqualRows, AllEqual}
use Rattle.comparisons.specs.Clauses.{formula}
use Rattle.comparisons.specs.Laws.{Comparable}

abbrev counted : ℕ → ℕ → ℕ → ℕ → Counts
counted i l g o = record { inputs = i; flops = l; gates = g; outputs = o }

-- a delay: one input, and one flop that takes it and is put out
abbrev pub delay : Net
delay = record { counts = counted 1 1 0 1; operands = []; nexts = 2 ∷ []; pins = 0 ∷ []; outs = 4 ∷ [] }

-- the AND of two inputs, a cycle later
abbrev pub pair : Net
pair = record { counts = counted 2 2 1 1; operands = (6, 8) ∷ []; nexts = 2 ∷ 4 ∷ []; pins = 0 ∷ 0 ∷ []; outs = 10 ∷ [] }

-- the same, where the second flop is clocked only when the first input is 1
abbrev pub gated_pair : Net
gated_pair = record {
  counts = counted 2 2 4 1;
  operands = (6, 8) ∷ (2, 4) ∷ (3, 8) ∷ (13, 15) ∷ [];
  nexts = 2 ∷ 17 ∷ [];
  pins = 0 ∷ 0 ∷ [];
  outs = 10 ∷ [];
}

-- two flops that count 0, 1, 2, 3 round, the low bit first, and put out a literal
abbrev pub counter : ℕ → Net
counter out = record {
  counts = counted 0 2 4 1;
  operands = (2, 4) ∷ (3, 5) ∷ (7, 9) ∷ (3, 4) ∷ [];
  nexts = 3 ∷ 10 ∷ [];
  pins = 0 ∷ 0 ∷ [];
  outs = out ∷ [];
}

-- it puts out 0; and 1 in state 2
abbrev pub silent : Net
silent = counter 0

abbrev pub at_two : Net
at_two = counter 12

-- comparison i, from 0, of a rule at depths n and k
abbrev pub compared : Rule → ℕ → ℕ → Net → Net → ℕ → Comparison
compared rule n k a b i = slice_index_or (comparisons a b rule n k) i (from_all a b [] [])

-- states 0 and 1 of the counters
abbrev pub state_0 : List Bool
state_0 = false ∷ false ∷ []

abbrev pub state_1 : List Bool
state_1 = true ∷ false ∷ []

pub record Samples : Type 0 where
  -- the delay against itself, by rule 1 with n = 1 and k = 0: V = 5, and six clauses
  pub delay_bounded : Bounded delay
  pub delay_comparable : Comparable Everywhere 1 0 delay delay
  pub delay_formula : map formula (comparisons delay delay Everywhere 1 0)
      ≡ record {
        variables = 5;
        given = (3 ∷ []) ∷ (9 ∷ 4 ∷ 4 ∷ []) ∷ (9 ∷ 5 ∷ 5 ∷ []) ∷ (11 ∷ 6 ∷ 6 ∷ []) ∷ (11 ∷ 7 ∷ 7 ∷ []) ∷ (8 ∷ 10 ∷ []) ∷ [];
      } ∷ []
  -- the pair against the gated one, by rule 1 with n = k = 1: V = 18, C = 31, equal
  pub pair_bounded : Bounded pair × Bounded gated_pair
  pub pair_comparable : Comparable Everywhere 1 1 pair gated_pair
  pub pair_variables : (formula (compared Everywhere 1 1 pair gated_pair 0)).variables ≡ 18
  pub pair_clauses : length (formula (compared Everywhere 1 1 pair gated_pair 0)).given ≡ 31
  pub pair_equal : AllEqual pair gated_pair Everywhere 1 1
  -- with k = 0: V = 13, C = 23, unequal, since on inputs 0 and 1 from state 0, 0 the final states differ
  pub short_comparable : Comparable Everywhere 1 0 pair gated_pair
  pub short_variables : (formula (compared Everywhere 1 0 pair gated_pair 0)).variables ≡ 13
  pub short_clauses : length (formula (compared Everywhere 1 0 pair gated_pair 0)).given ≡ 23
  pub short_finals : (final (machine gated_pair ∷ []) (false ∷ false ∷ []) ((false ∷ true ∷ []) ∷ []) ≡ false ∷ false ∷ [])
      × (final (machine pair ∷ []) (false ∷ false ∷ []) ((false ∷ true ∷ []) ∷ []) ≡ false ∷ true ∷ [])
  pub short_unequal : AllEqual pair gated_pair Everywhere 1 0 → ⊥
  -- the counters, by rule 3 with n = k = 1: from state 0 the third cycle is the first to differ
  pub counters_bounded : Bounded silent × Bounded at_two
  pub counters_comparable : Comparable FromPins 1 1 silent at_two
  pub counters_agree : (ws : ℕ → List Bool)
      → (output_at (machine silent) state_0 ws 0 ≡ output_at (machine at_two) state_0 ws 0)
      × (output_at (machine silent) state_0 ws 1 ≡ output_at (machine at_two) state_0 ws 1)
  pub counters_differ : (ws : ℕ → List Bool)
      → (output_at (machine silent) state_0 ws 2 ≡ false ∷ []) × (output_at (machine at_two) state_0 ws 2 ≡ true ∷ [])
  -- the first comparison is equal; the second, which starts anywhere, is unequal from state 1
  pub counters_two : comparisons silent at_two FromPins 1 1 ≡ compared FromPins 1 1 silent at_two 0 ∷ compared FromPins 1 1 silent at_two 1 ∷ []
  pub counters_first_equal : EqualRows (compared FromPins 1 1 silent at_two 0)
  pub counters_second_rows :
      (outputs (map machine (compared FromPins 1 1 silent at_two 1).left) state_1 ([] ∷ [] ∷ []) ≡ (false ∷ []) ∷ (true ∷ []) ∷ [])
      × (outputs (map machine (compared FromPins 1 1 silent at_two 1).right) state_1 ([] ∷ [] ∷ []) ≡ (false ∷ []) ∷ (false ∷ []) ∷ [])
  pub counters_second_unequal : EqualRows (compared FromPins 1 1 silent at_two 1) → ⊥
