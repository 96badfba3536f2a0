-- How the private functions of a matching tell what the circuit below answers.
use Rattle.std.specs.Prelude.{◌≡◌, ℕ, List}
use Rattle.circuits.specs.Net.{Net, next_at, pin_at}
use Rattle.circuits.specs.Renumbered.{renumbered}
use Rattle.circuits.specs.Matched.{place, flops_moved, matched}

-- f is the number that the circuit below answers for, where flop j is asked for
pub record StandsAt (n : Net) (p : List ℕ) (j f : ℕ) : Type 0 where
  pub next_is : next_at (matched n p) j ≡ renumbered (flops_moved n.counts (place p)) (next_at n f)
  pub pin_is : pin_at (matched n p) j ≡ pin_at n f
