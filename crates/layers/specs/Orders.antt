-- How an order keeps the places of its flops.
use Rattle.std.specs.Prelude.{◌≡◌, ℕ, ◌<◌, List, length, slice_index}
use Rattle.circuits.specs.Matched.{place}

-- each flop's place is kept
abbrev pub PlacesOf : List ℕ → List ℕ → Type 0
PlacesOf p places = (f : ℕ) → f < length p → slice_index places f ≡ place p f

-- Whatever an order names: where it names a flop, that flop stands at the place that is kept for it. Every place is one of the order's.
pub record KeptPlaces (p places : List ℕ) : Type 0 where
  pub inside : (f : ℕ) → f < 256 → 0 < length p → slice_index places f < length p
  pub stands : (k : ℕ) → k < length p → slice_index p k < 256 → slice_index p (slice_index places (slice_index p k)) ≡ slice_index p k
