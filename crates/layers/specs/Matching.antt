-- What matching a circuit answers.
use Rattle.std.specs.Prelude.{◌≡◌, ℕ, not, ◌↔◌, List, ◌∷◌, map, length, None, Result, ◌==◌, nat_le}
use Rattle.std.specs.List.{range_with_len}
use Rattle.circuits.specs.Checks.{Check, first_due, unless_due}
use Rattle.circuits.specs.Net.{Net}
use Rattle.circuits.specs.Matched.{place, InSomeOrder, matched}
use Rattle.layers.specs.declared.fault.MatchFault.{MatchFault}
use Rattle.layers.specs.declared.fault.MatchFault.TheVariants.{WrongLength, Unmatched}

-- a flop that does not stand in the order
abbrev pub flop_check : List ℕ → ℕ → Check MatchFault
flop_check p f = (Unmatched f, nat_le (length p) (place p f))

-- an order for l flops: its length, then each flop
abbrev pub match_checks : ℕ → List ℕ → List (Check MatchFault)
match_checks l p = (WrongLength, not (length p == l)) ∷ map (flop_check p) (range_with_len 0 l)

-- the matched circuit, or the first check that is due
abbrev pub matching : Net → List ℕ → Result Net MatchFault
matching n p = unless_due (match_checks n.counts.flops p) (matched n p)

-- none is due exactly where the order is 0 to l - 1 in some order
abbrev pub MatchesOrders : ℕ → List ℕ → Type 0
MatchesOrders l p = (first_due (match_checks l p) ≡ None) ↔ InSomeOrder l p
