-- What the checker reports of the two netlists of a folder, and the line that it prints.
use Rattle.std.specs.Prelude.{◌≡◌, ℕ, Bool, true, false, cond, ◌||◌, List, ◌++◌, length, Ok, Err, codes, decimal, Result, ◌≢◌, nat_lt}
use Rattle.aiger.specs.declared.fault.Refusal.TheVariants.{FewWords}
use Rattle.aiger.specs.declared.fault.ReadFault.{ReadFault}
use Rattle.circuits.specs.declared.side.Side.TheVariants.{Original, Gated}
use Rattle.circuits.specs.Sides.{letter}
use Rattle.circuits.specs.Net.{most_words}
use Rattle.aiger.specs.Reading.{reading}
use Rattle.aiger.specs.Refusals.{number}
use Rattle.checker.specs.Summary.{summed, told}
use Rattle.checker.specs.declared.summary.Summary.{Summary}
use Rattle.checker.specs.declared.report.Report.{Report}
use Rattle.checker.specs.declared.report.Report.TheVariants.{TooLong, Refused, Read}

-- the most bytes that a file may have
abbrev pub most_bytes : ℕ
most_bytes = 65536

abbrev pub too_long : List ℕ → List ℕ → Bool
too_long original gated = nat_lt most_bytes (length original) || nat_lt most_bytes (length gated)

-- the original is told before the gated netlist
abbrev pub of_answers : Result Summary ReadFault → Result Summary ReadFault → Report
of_answers (Err f) gated = Refused Original f
of_answers (Ok a) (Err f) = Refused Gated f
of_answers (Ok a) (Ok b) = Read a b

abbrev pub report : List ℕ → List ℕ → Report
report original gated =
    cond (too_long original gated) TooLong
    (of_answers (summed (reading most_words original)) (summed (reading most_words gated)))

-- no text is refused for want of words
abbrev pub WordsSuffice : Type 0
WordsSuffice = (t : List ℕ) (f : ReadFault) → reading most_words t ≡ Err f → f.refusal ≢ FewWords

-- both netlists are read
abbrev pub both_read : Report → Bool
both_read TooLong = false
both_read (Refused n f) = false
both_read (Read a b) = true

abbrev pub line : Report → List ℕ
line TooLong = codes "too long"
line (Refused n f) =
    codes "refused " ++ (decimal (number f.refusal) ++ (codes " netlist " ++ (letter n ++ (codes " line " ++ decimal f.line))))
line (Read a b) = codes "read netlist a with " ++ (told a ++ (codes " and netlist b with " ++ told b))
