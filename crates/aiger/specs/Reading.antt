-- What reading a netlist's text answers: lines in turn, within a line its checks by rising number, and the first that is due refuses.
use Rattle.std.specs.Prelude.{ℕ, ◌+◌, Bool, true, cond, not, ◌&&◌, ◌||◌, List, [], ◌∷◌, ◌++◌, map, length, drop, replicate, Some, None, Ok, Err, Option, Result, ◌==◌, nat_le, nat_lt}
use Rattle.std.specs.List.{range_with_len}
use Rattle.circuits.specs.declared.counts.Counts.{Counts}
use Rattle.aiger.specs.declared.lines.Header.{Header}
use Rattle.aiger.specs.declared.lines.FlopLine.{FlopLine}
use Rattle.aiger.specs.declared.lines.GateLine.{GateLine}
use Rattle.aiger.specs.declared.fault.Refusal.{Refusal}
use Rattle.aiger.specs.declared.fault.Refusal.TheVariants.{MalformedHeader, WrongCounts, MalformedLine, WrongLiteral, LargeLiteral, WrongPin, FewWords}
use Rattle.aiger.specs.declared.fault.ReadFault.{ReadFault}
use Rattle.aiger.specs.Lines.{single, gate, flop, header}
use Rattle.circuits.specs.Net.{Net, in_bounds, last_net, top, input_literal, flop_literal, gate_literal, layout, room}
use Rattle.circuits.specs.Checks.{Check, first_due}

abbrev pub refused : {X : Type 0} → ℕ → Refusal → Result X ReadFault
refused k r = Err (record { refusal = r; line = k })

-- what was read of line k: refused as malformed where nothing could be read, else by the first check that is due
abbrev pub judged : {X : Type 0} → ℕ → Refusal → Option (X × List ℕ) → (X → List (Check Refusal)) → Result (X × List ℕ) ReadFault
judged k malformed None checks = refused k malformed
judged k malformed (Some p) checks = elim (first_due (checks p.0)) [ None ↦ Ok p | Some r ↦ refused k r ]

-- line 1: the counts within their bounds, and adding up to the last net
abbrev pub counts_fit : Header → Bool
counts_fit h = in_bounds h.counts && h.last == last_net h.counts

abbrev pub header_checks : ℕ → Header → List (Check Refusal)
header_checks lent h = (WrongCounts, not (counts_fit h)) ∷ (FewWords, nat_lt lent (room h.counts)) ∷ []

abbrev pub header_line : ℕ → List ℕ → Result (Header × List ℕ) ReadFault
header_line lent t = judged 1 MalformedHeader (header t) (header_checks lent)

-- the line of input i, which has its own literal
abbrev pub input_checks : ℕ → ℕ → List (Check Refusal)
input_checks i x = (WrongLiteral, not (x == input_literal i)) ∷ []

abbrev pub input_line : ℕ → List ℕ → Result (ℕ × List ℕ) ReadFault
input_line i t = judged (2 + i) MalformedLine (single t) (input_checks i)

-- a flop's third number: none, 0, 1 or its own literal; its pin is 0, 0, 1 or 2
abbrev pub is_third : ℕ → Option ℕ → Bool
is_third own None = true
is_third own (Some n) = nat_le n 1 || n == own

abbrev pub pin : Option ℕ → ℕ
pin None = 0
pin (Some n) = cond (nat_le n 1) n 2

-- the line of flop j
abbrev pub flop_checks : Counts → ℕ → FlopLine → List (Check Refusal)
flop_checks c j f =
    (WrongLiteral, not (f.own == flop_literal c j))
    ∷ (LargeLiteral, nat_lt (top c) f.next)
    ∷ (WrongPin, not (is_third (flop_literal c j) f.third)) ∷ []

abbrev pub flop_line : Counts → ℕ → List ℕ → Result (FlopLine × List ℕ) ReadFault
flop_line c j t = judged (2 + c.inputs + j) MalformedLine (flop t) (flop_checks c j)

-- the line of output j
abbrev pub output_checks : Counts → ℕ → List (Check Refusal)
output_checks c x = (LargeLiteral, nat_lt (top c) x) ∷ []

abbrev pub output_line : Counts → ℕ → List ℕ → Result (ℕ × List ℕ) ReadFault
output_line c j t = judged (2 + c.inputs + c.flops + j) MalformedLine (single t) (output_checks c)

-- the line of gate i, whose operands are below its own literal
abbrev pub gate_checks : Counts → ℕ → GateLine → List (Check Refusal)
gate_checks c i g =
    (WrongLiteral, not (g.own == gate_literal c i))
    ∷ (LargeLiteral, nat_le (gate_literal c i) g.left || nat_le (gate_literal c i) g.right) ∷ []

abbrev pub gate_line : Counts → ℕ → List ℕ → Result (GateLine × List ℕ) ReadFault
gate_line c i t = judged (2 + c.inputs + c.flops + c.outputs + i) MalformedLine (gate t) (gate_checks c i)

-- one reader after another, up to a refusal
abbrev pub onward : {X Y : Type 0} → Result (X × List ℕ) ReadFault → (X → List ℕ → Result Y ReadFault) → Result Y ReadFault
onward (Err f) go = Err f
onward (Ok p) go = go p.0 p.1

-- the lines of one kind in turn, one for each index
abbrev pub each : {X : Type 0} → (ℕ → List ℕ → Result (X × List ℕ) ReadFault) → List ℕ → List ℕ → Result (List X × List ℕ) ReadFault
each line [] t = Ok ([], t)
each line (i ∷ is) t = onward (line i t) (λ x u. onward (each line is u) (λ xs v. Ok (x ∷ xs, v)))

-- the circuit that the lines tell
abbrev pub operands_of : List GateLine → List (ℕ × ℕ)
operands_of = map (λ g. (g.left, g.right))

abbrev pub nexts_of : List FlopLine → List ℕ
nexts_of = map (λ f. f.next)

abbrev pub pins_of : List FlopLine → List ℕ
pins_of = map (λ f. pin f.third)

abbrev pub net_of : Counts → List FlopLine → List ℕ → List GateLine → Net
net_of c fs os gs = record { counts = c; operands = operands_of gs; nexts = nexts_of fs; pins = pins_of fs; outs = os }

-- the lines after the first: inputs, flops, outputs, gates
abbrev pub sections : Counts → List ℕ → Result (Net × List ℕ) ReadFault
sections c t =
    onward (each input_line (range_with_len 0 c.inputs) t) (λ _ u.
    onward (each (flop_line c) (range_with_len 0 c.flops) u) (λ fs v.
    onward (each (output_line c) (range_with_len 0 c.outputs) v) (λ os w.
    onward (each (gate_line c) (range_with_len 0 c.gates) w) (λ gs x. Ok (net_of c fs os gs, x)))))

-- the circuit that a text holds, where so many words are lent; what follows the last line is not looked at
abbrev pub reading : ℕ → List ℕ → Result Net ReadFault
reading lent t = onward (header_line lent t) (λ h u. onward (sections h.counts u) (λ net _. Ok net))

-- what a reading answers, and what it leaves in the lent words: the circuit and then what they held, or zeros
abbrev pub answered : Result Net ReadFault → Result Counts ReadFault
answered (Ok net) = Ok net.counts
answered (Err f) = Err f

abbrev pub words_after : Result Net ReadFault → List ℕ → List ℕ
words_after (Ok net) ws = layout net ++ drop (length (layout net)) ws
words_after (Err f) ws = replicate (length ws) 0
