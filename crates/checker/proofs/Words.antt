-- The words lent for a netlist suffice.
use Rattle.std.proofs.Common.{subst, arith}
use Rattle.aiger.specs.declared.fault.Refusal.{Refusal}
use Rattle.circuits.specs.Net.{most_words}
use Rattle.aiger.specs.Laws.{Placed}
use Rattle.aiger.proofs.Refused.{placed}
use Rattle.checker.specs.Report.{WordsSuffice}

pub words_suffice : WordsSuffice
words_suffice t f e few =
    let p = subst (λ (r : Refusal). Placed most_words (record { refusal = r; line = f.line })) few (placed most_words t f e) in
    omega (arith, p.1)
