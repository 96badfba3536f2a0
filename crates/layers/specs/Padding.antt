-- What padding a circuit answers.
use Rattle.std.specs.Prelude.{◌≡◌, ℕ, ◌+◌, ◌≤◌, ◌↔◌, List, [], ◌∷◌, ◌++◌, length, None, Result, nat_lt}
use Rattle.circuits.specs.declared.counts.Counts.{Counts}
use Rattle.circuits.specs.declared.dummy.Dummy.{Dummy}
use Rattle.circuits.specs.Checks.{Check, first_due, unless_due}
use Rattle.circuits.specs.Net.{Net, top}
use Rattle.circuits.specs.Padded.{padded, Fitting}
use Rattle.layers.specs.declared.fault.PadFault.{PadFault}
use Rattle.layers.specs.declared.fault.PadFault.TheVariants.{ManyDummies, ManyFlops, LargeLiteral, LargePin}

-- the number of dummies, over a circuit of these counts
abbrev pub count_checks : Counts → ℕ → List (Check PadFault)
count_checks c d = (ManyDummies, nat_lt 16 d) ∷ (ManyFlops, nat_lt 256 (c.flops + d)) ∷ []

-- dummy k: its literal, then its pin
abbrev pub dummy_checks : Counts → ℕ → Dummy → List (Check PadFault)
dummy_checks c k d = (LargeLiteral k, nat_lt (top c) d.next) ∷ (LargePin k, nat_lt 2 d.pin) ∷ []

-- dummies in turn, from number k on
abbrev pub each_checked : Counts → ℕ → List Dummy → List (Check PadFault)
each_checked c k [] = []
each_checked c k (d ∷ ds) = dummy_checks c k d ++ each_checked c (k + 1) ds

abbrev pub pad_checks : Counts → List Dummy → List (Check PadFault)
pad_checks c ds = count_checks c (length ds) ++ each_checked c 0 ds

-- the padded circuit, or the first check that is due
abbrev pub padding : Net → List Dummy → Result Net PadFault
padding n ds = unless_due (pad_checks n.counts ds) (padded n ds)

-- none is due exactly where at most 16 dummies fit the circuit
abbrev pub PadsFitting : Counts → List Dummy → Type 0
PadsFitting c ds = (first_due (pad_checks c ds) ≡ None) ↔ ((length ds ≤ 16) × Fitting c ds)
