-- What is looked up in a bounded circuit is within the bounds, past the ends too.
use Rattle.std.proofs.Common.{ℕ, ◌≤◌, arith}
use Rattle.std.proofs.lemmas.Grind.{common_steps}
use Rattle.circuits.specs.Net.{Net, Bounded, top, gate_at, next_at, pin_at}
use Rattle.circuits.proofs.Mapped.{any_get_or}

module _ (n : Net) (b : Bounded n) where
  pub gate_low : (i : ℕ) → ((gate_at n i).0 ≤ top n.counts) × ((gate_at n i).1 ≤ top n.counts)
  gate_low i = (
    grind (arith, common_steps, b.operands_are, b.operands_in i),
    grind (arith, common_steps, b.operands_are, b.operands_in i),
  )

  pub next_low : (j : ℕ) → next_at n j ≤ top n.counts
  next_low = any_get_or (λ x. x ≤ top n.counts) n.nexts 0 (omega arith) b.nexts_in

  pub pin_low : (j : ℕ) → pin_at n j ≤ 2
  pin_low = any_get_or (λ p. p ≤ 2) n.pins 2 (omega arith) b.pins_in
