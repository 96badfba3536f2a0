-- What a plain circuit stands for.
use Rattle.std.specs.Prelude.{◌≡◌, ℕ, List, Ok}
use Rattle.circuits.specs.declared.counts.Counts.{Counts}
use Rattle.circuits.specs.Net.{Net}
use Rattle.circuits.specs.Held.{Holds, blank}
use Rattle.aiger.specs.Reading.{reading, words_after}

-- the words hold some circuit of these counts
abbrev pub SomeHeld : Counts → List ℕ → Type 0
SomeHeld c words = (n : Net) × Holds c words n

-- n is the circuit of these counts that the words hold, or the blank one where they hold none
pub record StandsFor (c : Counts) (words : List ℕ) (n : Net) : Type 0 where
  pub held : (m : Net) → Holds c words m → n ≡ m
  pub none_held : (SomeHeld c words → ⊥) → n ≡ blank
  -- for what reading accepted, whatever the words held before, it is exactly what was read
  pub as_read : (lent : ℕ) (text before : List ℕ) (m : Net) → reading lent text ≡ Ok m
      → c ≡ m.counts → words ≡ words_after (reading lent text) before → n ≡ m
