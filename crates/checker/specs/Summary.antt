-- What is told of a circuit: its counts, and how many of its flops have pin 0, pin 1 and none.
use Rattle.std.specs.Prelude.{ℕ, List, ◌++◌, Ok, Err, codes, decimal, count_by, Result, nat_eq}
use Rattle.aiger.specs.declared.fault.ReadFault.{ReadFault}
use Rattle.circuits.specs.Net.{Net}
use Rattle.circuits.specs.Told.{told_counts}
use Rattle.checker.specs.declared.summary.Summary.{Summary}

abbrev pub flops_with : ℕ → Net → ℕ
flops_with pin n = count_by (λ p. nat_eq p pin) n.pins

abbrev pub summary : Net → Summary
summary n = record { counts = n.counts; zeros = flops_with 0 n; ones = flops_with 1 n; free = flops_with 2 n }

-- of what was read
abbrev pub summed : Result Net ReadFault → Result Summary ReadFault
summed (Ok n) = Ok (summary n)
summed (Err f) = Err f

abbrev pub told : Summary → List ℕ
told s =
    told_counts s.counts ++ (codes " pinned-0 " ++ (decimal s.zeros ++ (codes " pinned-1 " ++ (decimal s.ones ++ (codes " unpinned " ++ decimal s.free)))))
