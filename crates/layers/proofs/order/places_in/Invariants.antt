use Rattle.layers.proofs.Matches.{PlacedTo}
use Rattle.layers.proofs.order.places_in.Given as goal

abbrev pub invariant-loop-j : goal.invariant-loop-j
invariant-loop-j l = PlacedTo l.flops l.places l.j
