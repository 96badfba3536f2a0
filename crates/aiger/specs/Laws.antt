-- The laws of reading.
use Rattle.std.specs.Prelude.{◌≡◌, ℕ, ◌<◌, ◌≤◌, ◌↔◌, List, [], ◌∷◌, ◌++◌, length, Some, Ok, Err, codes}
use Rattle.std.specs.Option.{option_to_list}
use Rattle.circuits.specs.declared.counts.Counts.{Counts}
use Rattle.aiger.specs.declared.fault.Refusal.{Refusal}
use Rattle.aiger.specs.declared.fault.Refusal.TheVariants.{MalformedHeader, WrongCounts, MalformedLine, WrongLiteral, LargeLiteral, WrongPin, FewWords}
use Rattle.aiger.specs.declared.fault.ReadFault.{ReadFault}
use Rattle.aiger.specs.declared.lines.Header.{Header}
use Rattle.aiger.specs.declared.lines.FlopLine.{FlopLine}
use Rattle.aiger.specs.declared.lines.GateLine.{GateLine}
use Rattle.aiger.specs.Lines.{header, single, flop, gate}
use Rattle.circuits.specs.Net.{Net, Bounded, Cycles, layout, room, most_words}
use Rattle.aiger.specs.Reading.{reading, header_checks, input_checks, flop_checks, output_checks, gate_checks}
use Rattle.circuits.specs.Checks.{Check, first_due}
use Rattle.aiger.specs.Refusals.{number, Rising, Lowest}
use Rattle.aiger.specs.Written.{StartsLine, BeginsWith}

-- A line of each kind is read exactly where its numbers are written so; everything else is malformed.
pub record LinesExact : Type 0 where
  pub headers : (t u : List ℕ) (h : Header) → (header t ≡ Some (h, u)) ↔ (tail : List ℕ) × ((t ≡ codes "aag" ++ (32 ∷ tail))
      × StartsLine tail h.last (h.counts.inputs ∷ h.counts.flops ∷ h.counts.outputs ∷ h.counts.gates ∷ []) u)
  pub singles : (t u : List ℕ) (n : ℕ) → (single t ≡ Some (n, u)) ↔ StartsLine t n [] u
  pub flops : (t u : List ℕ) (f : FlopLine) → (flop t ≡ Some (f, u)) ↔ StartsLine t f.own (f.next ∷ option_to_list f.third) u
  pub gates : (t u : List ℕ) (g : GateLine) → (gate t ≡ Some (g, u)) ↔ StartsLine t g.own (g.left ∷ g.right ∷ []) u

-- each text that begins with a written form of a bounded circuit is read as that circuit where the words suffice
abbrev pub ReadsBack : ℕ → List ℕ → Type 0
ReadsBack lent t = (net : Net) → Bounded net → BeginsWith net t → room net.counts ≤ lent → reading lent t ≡ Ok net

-- each text that is accepted begins with a written form of the circuit that it is read as, a bounded one for which the words suffice
abbrev pub AcceptsWritten : ℕ → List ℕ → Type 0
AcceptsWritten lent t = (net : Net) → reading lent t ≡ Ok net → Bounded net × BeginsWith net t × (room net.counts ≤ lent)

-- the last line of the largest circuit
abbrev pub last_line : ℕ
last_line = 8961

-- where a refusal can come from: line 1 brings on its own and each later line the others, and too few words are told only to a
-- lender of fewer than the largest circuit takes
abbrev pub Placed : ℕ → ReadFault → Type 0
Placed lent f = elim f.refusal [
  | MalformedHeader ↦ f.line ≡ 1
  | WrongCounts ↦ f.line ≡ 1
  | FewWords ↦ (f.line ≡ 1) × (lent < most_words)
  | MalformedLine ↦ (2 ≤ f.line) × (f.line ≤ last_line)
  | WrongLiteral ↦ (2 ≤ f.line) × (f.line ≤ last_line)
  | LargeLiteral ↦ (2 ≤ f.line) × (f.line ≤ last_line)
  | WrongPin ↦ (2 ≤ f.line) × (f.line ≤ last_line)
]

-- Within a line the checks stand in the order of their numbers, above that of a malformed line, and so the lowest that is due is told.
pub record InOrder : Type 0 where
  pub headers : (lent : ℕ) (h : Header) → Rising (number MalformedHeader) (header_checks lent h)
  pub inputs : (i x : ℕ) → Rising (number MalformedLine) (input_checks i x)
  pub flops : (c : Counts) (j : ℕ) (f : FlopLine) → Rising (number MalformedLine) (flop_checks c j f)
  pub outputs : (c : Counts) (x : ℕ) → Rising (number MalformedLine) (output_checks c x)
  pub gates : (c : Counts) (i : ℕ) (g : GateLine) → Rising (number MalformedLine) (gate_checks c i g)
  pub lowest : (n : ℕ) (cs : List (Check Refusal)) (r : Refusal) → Rising n cs → first_due cs ≡ Some r → Lowest r cs

-- the laws of reading
pub record Laws (lent : ℕ) (t : List ℕ) : Type 0 where
  pub lines_exact : LinesExact
  pub reads_back : ReadsBack lent t
  pub accepts_written : AcceptsWritten lent t
  pub in_order : InOrder
  pub placed : (f : ReadFault) → reading lent t ≡ Err f → Placed lent f
  -- the words that a circuit takes are as many as are asked for
  pub room_taken : (net : Net) → Bounded net → length (layout net) ≡ room net.counts
  -- what was read is a circuit: in a cycle each net has its value, and there are as many outputs and next bits as counted
  pub cycles : (net : Net) → reading lent t ≡ Ok net → Cycles net
