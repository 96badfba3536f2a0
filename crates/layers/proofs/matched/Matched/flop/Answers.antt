use Rattle.std.proofs.Common.{arith}
use Rattle.std.proofs.lemmas.Option.{gets}
use Rattle.layers.proofs.Matches.{stands_at}
use Rattle.layers.proofs.matched.Matched.flop.Goals as goal

pub returns : goal.returns
returns g c =
    let m = c.args.self.now in
    let at = stands_at (g.C.Circuit.meaning m.below.now) (g.C.Circuit.bounded m.below.now) m.order.now m.ordered.0 c.args.j in grind (arith, gets)
