-- The two circuits that are compared.
use Rattle.std.specs.Prelude.{ℕ, List, codes}
use Rattle.circuits.specs.declared.side.Side.{Side}
use Rattle.circuits.specs.declared.side.Side.TheVariants.{Original, Gated}

abbrev pub other_side : Side → Side
other_side Original = Gated
other_side Gated = Original

-- a is the original circuit, b the gated one
abbrev pub letter : Side → List ℕ
letter Original = codes "a"
letter Gated = codes "b"
