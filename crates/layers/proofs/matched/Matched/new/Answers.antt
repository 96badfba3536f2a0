use Rattle.std.proofs.Common.{rules}
use Rattle.circuits.proofs.Matchings.{matching_laws}
use Rattle.layers.proofs.matched.Matched.new.Goals as goal

pub returns-clause-laws : goal.returns-clause-laws
returns-clause-laws g c =
    let laws = matching_laws (g.C.Circuit.meaning c.args.below.now) c.args.order.now (g.C.Circuit.bounded c.args.below.now) in search rules
