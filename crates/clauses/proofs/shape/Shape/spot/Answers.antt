use Rattle.std.proofs.Common.{rules}
use Rattle.clauses.proofs.Gates.{spot_front}
use Rattle.clauses.proofs.shape.Shape.spot.Goals as goal

pub returns-then-g-before : goal.returns-then-g-before
returns-then-g-before c =
    spot_front c.args.self c.args.half c.gates_on-fronts.result c.args.g c.numbered.result (search rules) c.numbered.ensures (search rules)
