use Rattle.std.proofs.Common.{◌≡◌, drop}
use Rattle.circuits.specs.Checks.{unless_due}
use Rattle.layers.specs.Padding.{each_checked}
use Rattle.layers.proofs.padded.judge_dummies.Given as goal

-- the checks so far are not due
abbrev pub invariant-loop-k : goal.invariant-loop-k
invariant-loop-k l =
    unless_due (each_checked l.counts 0 l.dummies) (tt {0}) ≡ unless_due (each_checked l.counts l.k (drop l.k l.dummies)) (tt {0})
