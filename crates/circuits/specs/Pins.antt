-- The bit that a flop starts with, and the word that stands for it.
use Rattle.std.specs.Prelude.{◌≡◌, ℕ, ◌<◌, Result, MatchResult}
use Rattle.circuits.specs.declared.pin.Pin.{Pin}
use Rattle.circuits.specs.declared.pin.Pin.TheVariants.{Zero, One, Free}
use Rattle.circuits.specs.declared.pin.NoPin.{NoPin}

-- 2 stands for none: the flop may start with either bit
abbrev pub pin_word : Pin → ℕ
pin_word Zero = 0
pin_word One = 1
pin_word Free = 2

-- the pin that a word stands for, or the word, where it is none
abbrev pub PinOfWord : ℕ → Result Pin NoPin → Type 0
PinOfWord word r = MatchResult r (λ pin. pin_word pin ≡ word) (λ none. (none.0 ≡ word) × (2 < word))
