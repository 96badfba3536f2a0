use Rattle.std.proofs.Common.{rules}
use Rattle.clauses.proofs.Differences.{only_output}
use Rattle.clauses.proofs.shape.Shape.difference.Goals as goal

pub returns-clause-only : goal.returns-clause-only
returns-clause-only c = only_output c.args.self c.args.e c.numbered.result c.numbered.ensures (search rules)
