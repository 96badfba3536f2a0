use Rattle.clauses.proofs.comparison.Comparison.+named.Given as goal

abbrev pub decreases-named : goal.decreases-named
decreases-named g l = l.step.cycle
