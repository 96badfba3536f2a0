use Rattle.std.proofs.Common.{◌+◌, ◌*◌, rules}
use borrow.Author.Tests.{tests}
use Rattle.std.proofs.lemmas.Iterator.{cases_from_all, YieldsList-from_slice}
use Rattle.std.proofs.lemmas.Iterator.Consumers.{YieldsList-from_enumerate}
use Rattle.netlists.proofs.Operands.{Low, low_each}
use Rattle.netlists.proofs.sections.Sections.operands_low.Goals as goal

pub returns : goal.returns
returns c =
    let s = c.args.self.now in
    let low = Low (2 * (1 + s.counts.inputs + s.counts.flops)) in
    low_each s.counts s.operands.now s.all_operands c.all.result
    (cases_from_all _ _ _ low (λ p. low p → ⊥) c.all.ensures.ran (YieldsList-from_enumerate (YieldsList-from_slice s.operands.now cc) cc)
    (λ x q k. search (rules, tests)) (λ x q k. search (rules, tests)))
