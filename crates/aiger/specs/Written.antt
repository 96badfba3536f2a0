-- The written forms of a circuit.
use Rattle.std.specs.Prelude.{◌≡◌, ℕ, zero, suc, ◌^◌, ◌<◌, Bool, cond, List, [], ◌∷◌, ◌++◌, codes, decimal}
use Rattle.std.specs.List.{range_with_len, flat_map, AllByRecursion}
use Rattle.circuits.specs.declared.counts.Counts.{Counts}
use Rattle.circuits.specs.Net.{Net, last_net, input_literal, flop_literal, gate_literal, gate_at, next_at, pin_at, out_at}

-- numbers, each after a space, and byte 10; a line of numbers
abbrev pub further : List ℕ → List ℕ
further [] = 10 ∷ []
further (n ∷ ns) = 32 ∷ (decimal n ++ further ns)

abbrev pub line : ℕ → List ℕ → List ℕ
line n ns = decimal n ++ further ns

-- t begins with the line of these numbers, each below 2 ^ 32, and u follows
abbrev pub StartsLine : List ℕ → ℕ → List ℕ → List ℕ → Type 0
StartsLine t n ns u = (t ≡ line n ns ++ u) × AllByRecursion (λ m. m < 2 ^ 32) (n ∷ ns)

-- line 1: aag M I L O A
abbrev pub header_text : Counts → List ℕ
header_text c = codes "aag" ++ (32 ∷ line (last_net c) (c.inputs ∷ c.flops ∷ c.outputs ∷ c.gates ∷ []))

abbrev pub input_text : ℕ → List ℕ
input_text i = line (input_literal i) []

-- the third number of a flop's line: its pin, or its own literal for pin 2; a pin 0 may be left out
abbrev pub third_number : Bool → ℕ → ℕ → List ℕ
third_number bare own zero = cond bare [] (0 ∷ [])
third_number bare own (suc zero) = 1 ∷ []
third_number bare own (suc (suc p)) = own ∷ []

-- `bare j` says that the line of flop j leaves its third number out if it may
abbrev pub flop_text : Net → (ℕ → Bool) → ℕ → List ℕ
flop_text net bare j =
    line (flop_literal net.counts j) (next_at net j ∷ third_number (bare j) (flop_literal net.counts j) (pin_at net j))

abbrev pub output_text : Net → ℕ → List ℕ
output_text net j = line (out_at net j) []

abbrev pub gate_text : Net → ℕ → List ℕ
gate_text net i = line (gate_literal net.counts i) ((gate_at net i).0 ∷ (gate_at net i).1 ∷ [])

-- the whole text
abbrev pub text : Net → (ℕ → Bool) → List ℕ
text net bare =
    header_text net.counts
    ++ (flat_map input_text (range_with_len 0 net.counts.inputs)
    ++ (flat_map (flop_text net bare) (range_with_len 0 net.counts.flops)
    ++ (flat_map (output_text net) (range_with_len 0 net.counts.outputs)
    ++ flat_map (gate_text net) (range_with_len 0 net.counts.gates))))

-- t begins with a written form of the circuit
abbrev pub BeginsWith : Net → List ℕ → Type 0
BeginsWith net t = (bare : ℕ → Bool) × ((later : List ℕ) × (t ≡ text net bare ++ later))
