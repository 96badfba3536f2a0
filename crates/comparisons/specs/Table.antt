-- The table of the four rules: which rows are compared, at which depths, and of which start states the verdict speaks.
use Rattle.std.specs.Prelude.{◌≡◌, ℕ, ◌+◌, ◌-◌, ◌≤◌, Bool, List, [], ◌∷◌, ◌++◌, map, replicate}
use Rattle.std.specs.List.{AllByRecursion}
use Rattle.circuits.specs.Net.{Net}
use Rattle.comparisons.specs.declared.rule.Rule.{Rule}
use Rattle.comparisons.specs.declared.rule.Rule.TheVariants.{Everywhere, AfterOriginal, FromPins, AfterGated}
use Rattle.comparisons.specs.Machine.{Equal, Forever, Reached, machine, Bits, FitsPins}

-- Two rows of circuits with so many inputs and flops each, and the pins that a start state has to fit; with no pins it may be any.
pub record Comparison : Type 0 where
  pub inputs : ℕ
  pub flops : ℕ
  pub pins : List ℕ
  pub left : List Net
  pub right : List Net

-- from each state of that many bits that fits the pins, on an input of that many bits for each cycle, all outputs and the final states agree
abbrev pub EqualRows : Comparison → Type 0
EqualRows c = Equal (λ s. Bits c.flops s × FitsPins c.pins s) (Bits c.inputs) (map machine c.left) (map machine c.right)

-- n cycles of the one, then k of the other
abbrev pub row : ℕ → Net → ℕ → Net → List Net
row n x k y = replicate n x ++ replicate k y

-- a is the original, and b the gated circuit
module _ (a b : Net) where
  abbrev pub from_all : List Net → List Net → Comparison
  from_all left right = record { inputs = a.counts.inputs; flops = a.counts.flops; pins = []; left = left; right = right }

  abbrev pub from_pinned : List Net → List Net → Comparison
  from_pinned left right = record { inputs = a.counts.inputs; flops = a.counts.flops; pins = a.pins; left = left; right = right }

  -- the comparisons of a rule, in order
  abbrev pub comparisons : Rule → ℕ → ℕ → List Comparison
  comparisons Everywhere n k = from_all (row n b k a) (replicate (n + k) a) ∷ []
  comparisons AfterOriginal n k = from_all (row n a k b) (replicate (n + k) a) ∷ []
  comparisons FromPins n k = from_pinned (replicate n b) (replicate n a) ∷ from_all (row n a k b) (replicate (n + k) a) ∷ []
  comparisons AfterGated n k = from_all (row n b k a) (row (n + 1) b (k - 1) a) ∷ []

  -- the start states of the verdict
  abbrev pub VerdictStarts : Rule → ℕ → ℕ → List Bool → Type 0
  VerdictStarts Everywhere n k s = Bits a.counts.flops s
  VerdictStarts AfterOriginal n k s = Reached (Bits a.counts.flops) (Bits a.counts.inputs) (machine a) n s
  VerdictStarts FromPins n k s = Bits a.counts.flops s × FitsPins a.pins s
  VerdictStarts AfterGated n k s = Reached (Bits b.counts.flops) (Bits b.counts.inputs) (machine b) n s

  -- from each of them, both circuits put out the same in every cycle of every input sequence
  abbrev pub Verdict : Rule → ℕ → ℕ → Type 0
  Verdict rule n k = (s : List Bool) → VerdictStarts rule n k s → Forever (machine a) (machine b) s

  abbrev pub AllEqual : Rule → ℕ → ℕ → Type 0
  AllEqual rule n k = AllByRecursion EqualRows (comparisons rule n k)

-- the least depths of each rule
abbrev pub DeepEnough : Rule → ℕ → ℕ → Type 0
DeepEnough Everywhere n k = 1 ≤ n
DeepEnough AfterOriginal n k = 1 ≤ k
DeepEnough FromPins n k = (1 ≤ n) × (1 ≤ k)
DeepEnough AfterGated n k = 1 ≤ k

-- the depths that the table has
abbrev pub InTable : Rule → ℕ → ℕ → Type 0
InTable rule n k = DeepEnough rule n k × (n + k ≤ 8)

-- circuits that a rule can compare
pub record Alike (rule : Rule) (a b : Net) : Type 0 where
  pub inputs : a.counts.inputs ≡ b.counts.inputs
  pub flops : a.counts.flops ≡ b.counts.flops
  pub outputs : a.counts.outputs ≡ b.counts.outputs
  pub pins : rule ≡ FromPins → a.pins ≡ b.pins
