-- Circuits of gates and flops: what they are, their bounds, and what one cycle gives.
use Rattle.std.specs.Prelude.{◌≡◌, ℕ, zero, suc, ◌+◌, ◌*◌, ◌/◌, ◌%◌, ◌<◌, ◌≤◌, Bool, true, false, not, ◌&&◌, List, [], ◌∷◌, ◌++◌, map, length, get_or, nat_le, slice_index, slice_index_or}
use Rattle.std.specs.List.{range_with_len, flat_map, AllByRecursion}
use Rattle.circuits.specs.declared.counts.Counts.{Counts}

-- Net 0 is false, then come the inputs, the flops and the gates. Literal 2v is net v, and 2v + 1 its inverse.
-- A gate is the AND of two literals, its operands. A flop takes over the value of its next literal at the end of a cycle;
-- its pin is the bit that it starts with, 0 or 1, or 2 where it may start with either.
pub record Net : Type 0 where
  pub counts : Counts
  pub operands : List (ℕ × ℕ)
  pub nexts : List ℕ
  pub pins : List ℕ
  pub outs : List ℕ

-- the last net, and the largest literal
abbrev pub last_net : Counts → ℕ
last_net c = c.inputs + c.flops + c.gates

abbrev pub top : Counts → ℕ
top c = 2 * last_net c + 1

-- the own literals of input i, flop j and gate i, each counted from 0
abbrev pub input_literal : ℕ → ℕ
input_literal i = 2 * (1 + i)

abbrev pub flop_literal : Counts → ℕ → ℕ
flop_literal c j = 2 * (1 + c.inputs + j)

abbrev pub gate_literal : Counts → ℕ → ℕ
gate_literal c i = 2 * (1 + c.inputs + c.flops + i)

-- Lookups are total: past the end a gate's operands are 0, a literal is 0, and a pin is 2.
abbrev pub gate_at : Net → ℕ → ℕ × ℕ
gate_at net i = slice_index_or net.operands i (0, 0)

abbrev pub next_at : Net → ℕ → ℕ
next_at net j = slice_index net.nexts j

abbrev pub pin_at : Net → ℕ → ℕ
pin_at net j = slice_index_or net.pins j 2

abbrev pub out_at : Net → ℕ → ℕ
out_at net j = slice_index net.outs j

-- the bounds on the counts
pub record BoundedCounts (c : Counts) : Type 0 where
  pub few_inputs : c.inputs ≤ 256
  pub few_flops : c.flops ≤ 256
  pub few_gates : c.gates ≤ 8192
  pub some_output : 1 ≤ c.outputs
  pub few_outputs : c.outputs ≤ 256

abbrev pub in_bounds : Counts → Bool
in_bounds c = nat_le c.inputs 256 && (nat_le c.flops 256 && (nat_le c.gates 8192 && (nat_le 1 c.outputs && nat_le c.outputs 256)))

-- the operands of each gate are below its own literal
abbrev pub OperandsLow : Net → Type 0
OperandsLow net = (i : ℕ) → i < net.counts.gates
    → ((gate_at net i).0 < gate_literal net.counts i) × ((gate_at net i).1 < gate_literal net.counts i)

-- all bounds on a circuit
pub record Bounded (net : Net) : Type 0 where
  pub counts_in : BoundedCounts net.counts
  pub operands_are : length net.operands ≡ net.counts.gates
  pub nexts_are : length net.nexts ≡ net.counts.flops
  pub pins_are : length net.pins ≡ net.counts.flops
  pub outs_are : length net.outs ≡ net.counts.outputs
  pub operands_in : OperandsLow net
  pub nexts_in : AllByRecursion (λ x. x ≤ top net.counts) net.nexts
  pub pins_in : AllByRecursion (λ p. p ≤ 2) net.pins
  pub outs_in : AllByRecursion (λ x. x ≤ top net.counts) net.outs

-- A circuit in words: the operands of each gate, the next literals, the pins, the output literals.
abbrev pub operand_words : List (ℕ × ℕ) → List ℕ
operand_words = flat_map (λ g. g.0 ∷ g.1 ∷ [])

abbrev pub layout : Net → List ℕ
layout net = operand_words net.operands ++ (net.nexts ++ (net.pins ++ net.outs))

-- how many words that takes
abbrev pub room : Counts → ℕ
room c = 2 * c.gates + 2 * c.flops + c.outputs

-- what suffices for every bounded circuit
abbrev pub most_words : ℕ
most_words = 17152

-- One cycle. The nets hold bits here; the definitions that name a type A serve for whatever has an inverse, `turn`.

-- the first n of xs, with `off` for those that are missing
abbrev pub first : {A : Type 0} → A → ℕ → List A → List A
first off n xs = map (λ k. get_or xs k off) (range_with_len 0 n)

-- a, turned if n is not zero
abbrev pub turned : {A : Type 0} → (A → A) → ℕ → A → A
turned turn zero a = a
turned turn (suc n) a = turn a

-- what literal x is where `nets` says what the nets are; a net that is missing is `off`
abbrev pub pick : {A : Type 0} → (A → A) → A → List A → ℕ → A
pick turn off nets x = turned turn (x % 2) (slice_index_or nets (x / 2) off)

-- the nets before the gates: net 0, the inputs, the state
abbrev pub before : {A : Type 0} → A → Counts → List A → List A → List A
before off c state inputs = off ∷ (first off c.inputs inputs ++ first off c.flops state)

abbrev pub value : List Bool → ℕ → Bool
value = pick not false

-- the values of gates one after the other, where `nets` has those of the nets before them
abbrev pub gate_values : List (ℕ × ℕ) → List Bool → List Bool
gate_values [] nets = []
gate_values ((a, b) ∷ gates) nets =
    let g = value nets a && value nets b in g ∷ gate_values gates (nets ++ g ∷ [])

-- the value of every net
abbrev pub values : Net → List Bool → List Bool → List Bool
values net state inputs =
    let nets = before false net.counts state inputs in nets ++ gate_values net.operands nets

-- what a cycle gives from the bits of the flops and of the inputs: the outputs, and the next bits of the flops
abbrev pub cycle_outs : Net → List Bool → List Bool → List Bool
cycle_outs net state inputs = map (value (values net state inputs)) net.outs

abbrev pub cycle_nexts : Net → List Bool → List Bool → List Bool
cycle_nexts net state inputs = map (value (values net state inputs)) net.nexts

-- What that says of each net: net 0 is false, an input and a flop have their bits, and a gate is the AND of its operands.
-- A missing bit is false, and bits past the inputs and the flops are not looked at.
pub record Cycle (net : Net) (state inputs : List Bool) : Type 0 where
  pub false_net : get_or (values net state inputs) 0 true ≡ false
  pub input_nets : (i : ℕ) → i < net.counts.inputs → value (values net state inputs) (input_literal i) ≡ slice_index_or inputs i false
  pub flop_nets : (j : ℕ) → j < net.counts.flops → value (values net state inputs) (flop_literal net.counts j) ≡ slice_index_or state j false
  pub gate_nets : (i : ℕ) → i < net.counts.gates → value (values net state inputs) (gate_literal net.counts i)
      ≡ (value (values net state inputs) (gate_at net i).0 && value (values net state inputs) (gate_at net i).1)
  pub all_nets : length (values net state inputs) ≡ 1 + last_net net.counts
  pub outs_given : length (cycle_outs net state inputs) ≡ net.counts.outputs
  pub nexts_given : length (cycle_nexts net state inputs) ≡ net.counts.flops

abbrev pub Cycles : Net → Type 0
Cycles net = (state inputs : List Bool) → Cycle net state inputs
