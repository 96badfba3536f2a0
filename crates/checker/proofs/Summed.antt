-- A circuit that stands for what was read is summed up as that.
use Rattle.std.proofs.Common.{◌≡◌, ℕ, List, Ok, Err, Result, refl, ap, arith}
use Rattle.circuits.specs.declared.counts.Counts.{Counts}
use Rattle.circuits.specs.Net.{Net}
use Rattle.aiger.specs.declared.fault.ReadFault.{ReadFault}
use Rattle.aiger.specs.Reading.{reading, answered, words_after}
use Rattle.netlists.specs.Plain.{StandsFor}
use Rattle.checker.specs.Summary.{summary, summed}

module _ (lent : ℕ) (text before words : List ℕ) (c : Counts) (n : Net) (w : words ≡ words_after (reading lent text) before) (s : StandsFor c words n) where
  by_answer : (r : Result Net ReadFault) → reading lent text ≡ r → Ok c ≡ answered r → Ok (summary n) ≡ summed r
  by_answer (Ok m) e a = let k : c ≡ m.counts = cc in ap (λ x. Ok (summary x)) (s.as_read lent text before m e k w)
  by_answer (Err f) e a = let z : ◌≡◌ {A = ℕ} 0 1 = cc in absurd (omega arith)

  pub read_summed : Ok c ≡ answered (reading lent text) → Ok (summary n) ≡ summed (reading lent text)
  read_summed a = by_answer (reading lent text) refl a
