-- Two circuits are the same where their parts are.
use Rattle.std.proofs.Common.{◌≡◌, ℕ, List}
use Rattle.circuits.specs.declared.counts.Counts.{Counts}
use Rattle.circuits.specs.Net.{Net}

of : Counts → List (ℕ × ℕ) → List ℕ → List ℕ → List ℕ → Net
of c o x p u = record { counts = c; operands = o; nexts = x; pins = p; outs = u }

pub same_net : (n m : Net) → n.counts ≡ m.counts → n.operands ≡ m.operands → n.nexts ≡ m.nexts → n.pins ≡ m.pins → n.outs ≡ m.outs → n ≡ m
unfolding of
same_net n m c o x p u =
    let e : of n.counts n.operands n.nexts n.pins n.outs ≡ of m.counts m.operands m.nexts m.pins m.outs = cc in e
