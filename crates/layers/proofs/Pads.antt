-- What the checks of dummies say, and what a padding answers for a flop.
use Rattle.std.proofs.Common.{◌≡◌, ℕ, ◌+◌, ◌-◌, ◌<◌, ◌≤◌, ◌⊎◌, List, [], ◌∷◌, ◌++◌, map, length, get_or, Some, None, Ok, Option, Bor, sym, inl, inr, arith}
use Rattle.std.specs.List.{AllByRecursion}
use Rattle.std.specs.Option.{option_copied}
use Rattle.std.specs.Slice.{IsItemAt}
use Rattle.std.proofs.ByRecursion.{All-get_or}
use Rattle.std.proofs.lemmas.Bool.Decides.{nat_tests}
use Rattle.std.proofs.lemmas.Grind.{common_steps}
use Rattle.circuits.specs.declared.counts.Counts.{Counts}
use Rattle.circuits.specs.declared.dummy.Dummy.{Dummy}
use Rattle.circuits.specs.Checks.{unless_due}
use Rattle.circuits.specs.Net.{Net, Bounded}
use Rattle.circuits.specs.Padded.{Fitting}
use Rattle.circuits.proofs.Checking.{Passed, all_passed, none_due, none_from_ok}
use Rattle.circuits.proofs.Lookups.{next_low}
use Rattle.circuits.proofs.Paddings.{Fits}
use Rattle.layers.specs.Padding.{each_checked, pad_checks, PadsFitting}
use Rattle.layers.specs.PaddedAnswers.{AnsweredBelow, Found}

each_fits : (c : Counts) (k : ℕ) (ds : List Dummy) → Passed (each_checked c k ds) → AllByRecursion (Fits c) ds
each_fits c k [] a = tt
each_fits c k (d ∷ ds) a = ((grind (arith, nat_tests, a.0), grind (arith, nat_tests, a.1.0)), each_fits c (k + 1) ds a.1.1)

each_passes : (c : Counts) (k : ℕ) (ds : List Dummy) → AllByRecursion (Fits c) ds → Passed (each_checked c k ds)
each_passes c k [] a = tt
each_passes c k (d ∷ ds) a = (grind (arith, nat_tests, a.0), (grind (arith, nat_tests, a.0), each_passes c (k + 1) ds a.1))

pub pads_fitting : (c : Counts) (ds : List Dummy) → PadsFitting c ds
pads_fitting c ds = (
  (λ e.
      let a = all_passed (pad_checks c ds) e in
      (grind (arith, nat_tests, a.0), (grind (arith, nat_tests, a.1.0), each_fits c 0 ds a.1.1))),
  (λ f. none_due (pad_checks c ds) (grind (arith, nat_tests, f.0), (grind (arith, nat_tests, f.1.0), each_passes c 0 ds f.1.1))),
)

-- what passes the checks fits
pub passed_fits : (c : Counts) (ds : List Dummy) → Ok (tt {0}) ≡ unless_due (pad_checks c ds) (tt {0}) → Fitting c ds
passed_fits c ds e = ((pads_fitting c ds).0 (none_from_ok (pad_checks c ds) (tt {0}) (tt {0}) (sym e))).1

-- What a padding answers for flop j: for one of the circuit below, and for what is looked up past those.
module _ (n : Net) (b : Bounded n) (ds : List Dummy) (j : ℕ) where
  below_or_past : (j < n.counts.flops) ⊎ (n.counts.flops + length ds ≤ j) → AnsweredBelow n ds j
  below_or_past h = record {
    next_is = record { is = grind (arith, common_steps, b.nexts_are); low = next_low n b j };
    pin_is = grind (arith, common_steps, b.pins_are);
  }

  pub own_found : (o : Option Dummy) → o ≡ None → j < n.counts.flops → Found n ds j o
  own_found o e h = rw e (below_or_past (inl h))

  pub lookup_found : Fitting n.counts ds → n.counts.flops ≤ j → (o : Option (Bor Dummy)) → IsItemAt ds (j - n.counts.flops) o
      → Found n ds j (option_copied o)
  lookup_found fits past None at = below_or_past (inr (omega (arith, at.3)))
  lookup_found fits past (Some d) at =
      let fit = All-get_or (Fits n.counts) ds (j - n.counts.flops) d.now at.3.0 fits.1 in
      let same = at.3.1 d.now in
      let next : get_or (n.nexts ++ map (λ d. d.next) ds) j 0 ≡ d.now.next = grind (arith, common_steps, b.nexts_are) in
      record {
        next_is = record { is = grind (arith, common_steps); low = grind arith };
        pin_is = grind (arith, common_steps, b.pins_are);
        is_pin = grind arith;
      }
