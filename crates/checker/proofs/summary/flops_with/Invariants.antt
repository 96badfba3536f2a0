use Rattle.std.proofs.Common.{◌≡◌, nat_eq, take, count_by}
use Rattle.circuits.specs.Pins.{pin_word}
use Rattle.checker.proofs.summary.flops_with.Given as goal

abbrev pub invariant-loop-j : goal.invariant-loop-j
invariant-loop-j g l = l.count ≡ count_by (λ p. nat_eq p (pin_word l.pin)) (take l.j (g.C.Circuit.meaning l.circuit).pins)
