use Rattle.std.proofs.Common.{◌≡◌, ◌-◌, map, length}
use Rattle.std.specs.List.{range_with_len}
use Rattle.circuits.specs.Checks.{unless_due}
use Rattle.layers.specs.Matching.{flop_check}
use Rattle.layers.proofs.order.judge_flops.Given as goal

-- the checks so far are not due
abbrev pub invariant-loop-flop : goal.invariant-loop-flop
invariant-loop-flop l =
    unless_due (map (flop_check l.flops) (range_with_len 0 (length l.flops))) (tt {0})
    ≡ unless_due (map (flop_check l.flops) (range_with_len l.flop (length l.flops - l.flop))) (tt {0})
