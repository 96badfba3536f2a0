-- What a net is in a circuit: net 0 is false, then come the inputs, the flops and the gates.
use Rattle.std.specs.Prelude.{◌≡◌, ℕ, ◌+◌, ◌<◌}
use Rattle.circuits.specs.declared.counts.Counts.{Counts}
use Rattle.circuits.specs.declared.kind.NetKind.{NetKind}
use Rattle.circuits.specs.declared.kind.NetKind.TheVariants.{False, Input, Flop, Gate}

abbrev pub IsKind : Counts → ℕ → NetKind → Type 0
IsKind c net False = net ≡ 0
IsKind c net (Input i) = (i < c.inputs) × (net ≡ 1 + i)
IsKind c net (Flop j) = (j < c.flops) × (net ≡ 1 + c.inputs + j)
IsKind c net (Gate g) = net ≡ 1 + c.inputs + c.flops + g
