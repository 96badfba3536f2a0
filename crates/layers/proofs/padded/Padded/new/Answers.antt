use Rattle.std.proofs.Common.{rules}
use Rattle.circuits.proofs.Paddings.{padding_laws}
use Rattle.layers.proofs.padded.Padded.new.Goals as goal

pub returns-clause-laws : goal.returns-clause-laws
returns-clause-laws g c =
    let laws = padding_laws (g.C.Circuit.meaning c.args.below.now) c.args.dummies.now (g.C.Circuit.bounded c.args.below.now) in search rules
