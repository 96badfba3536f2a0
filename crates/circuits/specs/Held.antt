-- Circuits held in words.
use Rattle.std.specs.Prelude.{◌≡◌, ℕ, ◌+◌, ◌*◌, List, [], ◌∷◌, map, take, slice_index}
use Rattle.std.specs.List.{range_with_len}
use Rattle.circuits.specs.declared.counts.Counts.{Counts}
use Rattle.circuits.specs.Net.{Net, Bounded, layout, room}

-- the words begin with a bounded circuit of these counts
pub record Holds (c : Counts) (words : List ℕ) (n : Net) : Type 0 where
  pub bounded : Bounded n
  pub counted : n.counts ≡ c
  pub laid : take (room c) words ≡ layout n

-- the circuit with no input, flop or gate, and one output, which is false
abbrev pub blank : Net
blank = record { counts = record { inputs = 0; flops = 0; gates = 0; outputs = 1 }; operands = []; nexts = []; pins = []; outs = 0 ∷ [] }

-- The same word by word.

-- so many words from a place on, and as many pairs of words from the front
abbrev pub row_in : ℕ → ℕ → List ℕ → List ℕ
row_in from count words = map (λ k. slice_index words (from + k)) (range_with_len 0 count)

abbrev pub pairs_in : ℕ → List ℕ → List (ℕ × ℕ)
pairs_in count words = map (λ k. (slice_index words (2 * k), slice_index words (2 * k + 1))) (range_with_len 0 count)

-- the circuit that such words hold, read off by place
abbrev pub net_in : Counts → List ℕ → Net
net_in c words = record {
  counts = c;
  operands = pairs_in c.gates words;
  nexts = row_in (2 * c.gates) c.flops words;
  pins = row_in (2 * c.gates + c.flops) c.flops words;
  outs = row_in (2 * c.gates + 2 * c.flops) c.outputs words;
}
