-- What the checks of an order say, and what passes them.
use Rattle.std.proofs.Common.{◌≡◌, ℕ, zero, suc, ◌+◌, ◌-◌, ◌<◌, ◌≤◌, List, ◌∷◌, map, length, get_or, Ok, Err, Result, sym, refl, ap, ◌∙◌, arith}
use Rattle.std.specs.List.{range_with_len, slice_get}
use Rattle.std.specs.Option.{unwrap_or}
use Rattle.std.proofs.lemmas.Bool.Decides.{nat_tests}
use Rattle.std.proofs.lemmas.Grind.{common_steps}
use Rattle.std.proofs.lemmas.Option.{gets}
use Rattle.circuits.specs.Checks.{unless_due}
use Rattle.circuits.specs.Net.{Net, Bounded}
use Rattle.circuits.specs.Matched.{place, InSomeOrder}
use Rattle.circuits.proofs.Checking.{Passed, all_passed, none_due, none_from_ok}
use Rattle.circuits.proofs.Orders.{at_place, place_le, names_flops}
use Rattle.layers.specs.declared.fault.MatchFault.{MatchFault}
use Rattle.layers.specs.declared.fault.MatchFault.TheVariants.{Unmatched}
use Rattle.layers.specs.Matching.{flop_check, match_checks, MatchesOrders}
use Rattle.layers.specs.MatchedAnswers.{StandsAt}
use Rattle.layers.specs.Orders.{KeptPlaces, PlacesOf}

-- the places after the first j entries of p
pub record PlacedTo (p places : List ℕ) (j : ℕ) : Type 0 where
  pub long : length places ≡ 256
  pub inside : (f : ℕ) → f < 256 → get_or places f 0 ≤ j - 1
  pub stands : (k : ℕ) → k < j → get_or p k 0 < 256 → get_or p (get_or places (get_or p k 0) 0) 0 ≡ get_or p k 0

-- One flop: what stands at its place.
module _ (p places : List ℕ) (placed : KeptPlaces p places) (f : ℕ) (few : f < 256) where
  pub flop_named : 0 < length p → get_or p (get_or places f 0) 0 ≡ f → place p f < length p
  flop_named some e =
      let l = place_le p f (get_or places f 0) 0 (placed.inside f few some) e in omega (arith, placed.inside f few some)

  -- a flop that the order names stands at its place
  pub named_stands : place p f < length p → get_or p (get_or places f 0) 0 ≡ f
  named_stands h = let e = at_place p f 0 h in grind (arith, placed.stands (place p f))

-- the checks from flop k on, where l flops are checked
module _ (p : List ℕ) (l k : ℕ) (h : k < l) where
  abbrev from_flop : ℕ → Result (Unit {0}) MatchFault
  from_flop i = unless_due (map (flop_check p) (range_with_len i (l - i))) (tt {0})

  opened : from_flop k ≡ unless_due (flop_check p k ∷ map (flop_check p) (range_with_len (k + 1) (l - (k + 1)))) (tt {0})
  opened = let e : l - k ≡ suc (l - (k + 1)) = omega arith in ap (λ m. unless_due (map (flop_check p) (range_with_len k m)) (tt {0})) e

  pub flop_passed : place p k < length p → from_flop k ≡ from_flop (k + 1)
  flop_passed h = opened ∙ grind (arith, common_steps)

  pub flop_refused : length p ≤ place p k → from_flop k ≡ Err (Unmatched k)
  flop_refused h = opened ∙ grind (arith, common_steps)

-- what judging a flop takes
pub ruleset flop_steps = (common_steps, flop_named, named_stands, flop_passed, flop_refused)

-- the checks of n flops from a on pass exactly where each stands in p
flops_stand : (p : List ℕ) (a n : ℕ) → Passed (map (flop_check p) (range_with_len a n)) → (f : ℕ) → a ≤ f → f < a + n → place p f < length p
flops_stand p a zero h f l m = absurd (omega arith)
flops_stand p a (suc n) h f l m = grind (arith, nat_tests, h.0, flops_stand p (a + 1) n h.1 f)

flops_pass : (p : List ℕ) (a n : ℕ) → ((f : ℕ) → a ≤ f → f < a + n → place p f < length p) → Passed (map (flop_check p) (range_with_len a n))
flops_pass p a zero h = tt
flops_pass p a (suc n) h = (grind (arith, nat_tests, h a), flops_pass p (a + 1) n (λ f l m. h f (omega arith) (omega arith)))

pub matches_orders : (l : ℕ) (p : List ℕ) → MatchesOrders l p
matches_orders l p = (
  (λ e.
      let a = all_passed (match_checks l p) e in
      let n : length p ≡ l = grind (arith, nat_tests, a.0) in
      (n, λ f h. omega (arith, flops_stand p 0 l a.1 f (omega arith) (omega arith)))),
  (λ o.
      let n = o.0 in
      none_due (match_checks l p) (grind (arith, nat_tests), flops_pass p 0 l (λ f _ h. omega (arith, o.1 f (omega arith))))),
)

-- where each flop passes, they are in some order
pub passed_orders : (p : List ℕ) → Ok (tt {0}) ≡ unless_due (map (flop_check p) (range_with_len 0 (length p))) (tt {0}) → InSomeOrder (length p) p
passed_orders p e =
    let flops = map (flop_check p) (range_with_len 0 (length p)) in
    let a = all_passed flops (none_from_ok flops (tt {0}) (tt {0}) (sym e)) in
    (refl, λ f h. flops_stand p 0 (length p) a f (omega arith) (omega arith))

-- and the place at which each stands is its place
pub places_of : (p places : List ℕ) → length p ≤ 256 → KeptPlaces p places
    → Ok (tt {0}) ≡ unless_due (map (flop_check p) (range_with_len 0 (length p))) (tt {0}) → PlacesOf p places
places_of p places few placed e f h =
    let o = passed_orders p e in
    let stands = named_stands p places placed f (omega arith) (o.1 f h) in
    sym ((names_flops (length p) p o (get_or places f 0) (placed.inside f (omega arith) (omega arith))).1) ∙ ap (place p) stands

-- which flop stands at j, and past the last flop j itself
pub stands_at : (n : Net) (b : Bounded n) (p : List ℕ) → length p ≡ n.counts.flops → (j : ℕ) → StandsAt n p j (unwrap_or (slice_get p j) j)
stands_at n b p l j =
    record { next_is = grind (arith, common_steps, gets, b.nexts_are); pin_is = grind (arith, common_steps, gets, b.pins_are) }
