use Rattle.std.proofs.Common.{arith}
use Rattle.std.proofs.lemmas.Grind.{common_steps}
use Rattle.layers.proofs.Matches.{places_of}
use Rattle.layers.proofs.order.judge_flops.Goals as goal

pub returns-clause-placed : goal.returns-clause-placed
returns-clause-placed c = places_of c.args.flops.now c.args.places.now c.requires.few c.requires.placed (grind (arith, common_steps))
