-- Machines that run cycle by cycle, rows of them, and what it means that two cannot be told apart.
use Rattle.std.specs.Prelude.{◌≡◌, ℕ, zero, suc, Bool, true, false, List, [], ◌∷◌, length, replicate, slice_index_or}
use Rattle.std.specs.List.{AllByRecursion}
use Rattle.circuits.specs.Net.{Net, cycle_outs, cycle_nexts}

-- what a machine puts out in a cycle, and its state after it
pub record Machine (S W Y : Type 0) : Type 0 where
  pub out : S → W → Y
  pub next : S → W → S

module _ {S W Y : Type 0} where
  -- A row runs one cycle of each of its machines in turn, on one input each, from a start state: its outputs, and its final state.
  abbrev pub outputs : List (Machine S W Y) → S → List W → List Y
  outputs [] s ws = []
  outputs (m ∷ row) s [] = []
  outputs (m ∷ row) s (w ∷ ws) = m.out s w ∷ outputs row (m.next s w) ws

  abbrev pub final : List (Machine S W Y) → S → List W → S
  final [] s ws = s
  final (m ∷ row) s [] = s
  final (m ∷ row) s (w ∷ ws) = final row (m.next s w) ws

  -- two rows are equal: from each start state that is allowed, on as many allowed inputs as there are cycles, all outputs and the final
  -- states agree
  abbrev pub Equal : (S → Type 0) → (W → Type 0) → List (Machine S W Y) → List (Machine S W Y) → Type 0
  Equal Start Input left right = (s : S) → Start s → (ws : List W) → length ws ≡ length left → AllByRecursion Input ws
      → (outputs left s ws ≡ outputs right s ws) × (final left s ws ≡ final right s ws)

  -- the machine comes to x in exactly n cycles from some state that is allowed, on n allowed inputs
  abbrev pub Reached : (S → Type 0) → (W → Type 0) → Machine S W Y → ℕ → S → Type 0
  Reached Start Input m n x =
      (s : S) × (Start s × ((ws : List W) × ((length ws ≡ n) × AllByRecursion Input ws × (final (replicate n m) s ws ≡ x))))

  -- the output in cycle t of a machine that runs for ever, on one input for each cycle
  abbrev pub output_at : Machine S W Y → S → (ℕ → W) → ℕ → Y
  output_at m s ws zero = m.out s (ws 0)
  output_at m s ws (suc t) = output_at m (m.next s (ws 0)) (λ u. ws (suc u)) t

  -- started at s, the two are equal for ever: they put out the same in every cycle of every input sequence
  abbrev pub Forever : Machine S W Y → Machine S W Y → S → Type 0
  Forever a b s = (ws : ℕ → W) (t : ℕ) → output_at a s ws t ≡ output_at b s ws t

-- no condition
abbrev pub Any : {X : Type 0} → X → Type 0
Any x = Unit {0}

-- a circuit, a cycle at a time; its states, inputs and outputs are rows of bits
abbrev pub machine : Net → Machine (List Bool) (List Bool) (List Bool)
machine net = record { out = cycle_outs net; next = cycle_nexts net }

-- so many bits
abbrev pub Bits : ℕ → List Bool → Type 0
Bits n xs = length xs ≡ n

-- a bit is what a pin says; pin 2 says nothing
abbrev pub Held : ℕ → Bool → Type 0
Held zero b = b ≡ false
Held (suc zero) b = b ≡ true
Held (suc (suc p)) b = Unit {0}

-- a state fits the pins if each flop with pin 0 or 1 holds that bit
abbrev pub FitsPins : List ℕ → List Bool → Type 0
FitsPins pins s = (j : ℕ) → Held (slice_index_or pins j 2) (slice_index_or s j false)
