-- How the private functions of a padding tell what the circuit below answers.
use Rattle.std.specs.Prelude.{◌≡◌, ℕ, ◌≤◌, List, length, Option, MatchOption}
use Rattle.circuits.specs.declared.dummy.Dummy.{Dummy}
use Rattle.circuits.specs.Net.{Net, top, next_at, pin_at}
use Rattle.circuits.specs.Renumbered.{renumbered}
use Rattle.circuits.specs.Padded.{padded, moved_up}

-- x is the next literal of flop j, numbered as in the circuit below
pub record NextRaised (n : Net) (ds : List Dummy) (j x : ℕ) : Type 0 where
  pub is : next_at (padded n ds) j ≡ renumbered (moved_up n.counts (length ds)) x
  pub low : x ≤ top n.counts

-- the circuit below answers for flop j
pub record AnsweredBelow (n : Net) (ds : List Dummy) (j : ℕ) : Type 0 where
  pub next_is : NextRaised n ds j (next_at n j)
  pub pin_is : pin_at (padded n ds) j ≡ pin_at n j

-- flop j is the dummy d
pub record AnsweredBy (n : Net) (ds : List Dummy) (j : ℕ) (d : Dummy) : Type 0 where
  pub next_is : NextRaised n ds j d.next
  pub pin_is : pin_at (padded n ds) j ≡ d.pin
  pub is_pin : d.pin ≤ 2

-- the dummy that flop j is, or none where it is no dummy
abbrev pub Found : Net → List Dummy → ℕ → Option Dummy → Type 0
Found n ds j o = MatchOption o (AnsweredBelow n ds j) (AnsweredBy n ds j)
