use Rattle.std.proofs.Common.{rules}
use Rattle.netlists.proofs.Plains.{stands_blank}
use Rattle.netlists.proofs.plain.Plain.new.Goals as goal

pub returns : goal.returns
returns c = stands_blank c.args.counts c.args.words.now _ (λ h. let some = c.in_default.ensures.found.1 h in absurd cc) (search rules)
