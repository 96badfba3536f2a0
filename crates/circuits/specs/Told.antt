-- The words in which counts, and words that are no pin, are told.
use Rattle.std.specs.Prelude.{ℕ, List, ◌++◌, codes, decimal}
use Rattle.circuits.specs.declared.counts.Counts.{Counts}
use Rattle.circuits.specs.declared.pin.NoPin.{NoPin}

abbrev pub told_counts : Counts → List ℕ
told_counts c =
    codes "inputs " ++ (decimal c.inputs ++ (codes " flops " ++ (decimal c.flops ++ (codes " gates " ++ (decimal c.gates
    ++ (codes " outputs " ++ decimal c.outputs))))))

abbrev pub told_no_pin : NoPin → List ℕ
told_no_pin none = decimal none.0 ++ codes " is no pin"
