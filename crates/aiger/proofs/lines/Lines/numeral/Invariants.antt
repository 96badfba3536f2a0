use Rattle.std.proofs.Common.{◌≡◌, length}
use Rattle.aiger.specs.Lines.{digits}
use Rattle.aiger.proofs.lines.Lines.numeral.Given as goal

abbrev pub invariant-loop-d : goal.invariant-loop-d
invariant-loop-d l = digits l.n l.self ≡ digits l.initial.n l.initial.self

abbrev pub decreases-loop-d : goal.decreases-loop-d
decreases-loop-d l = length l.self
