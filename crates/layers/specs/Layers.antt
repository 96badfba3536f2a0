-- Layers over a circuit.
use Rattle.std.specs.Prelude.{Ok, Err, Result}

-- what was made, by what it means
abbrev pub meant : {X N F : Type 0} → (X → N) → Result X F → Result N F
meant meaning (Ok x) = Ok (meaning x)
meant meaning (Err f) = Err f
