-- The four rules: what equality of finite rows says of two machines that run for ever.
use Rattle.std.specs.Prelude.{◌≡◌, ℕ, ◌+◌, ◌-◌, ◌≤◌, Bool, true, ◌++◌, replicate}
use Rattle.comparisons.specs.Machine.{Machine, Equal, Forever, Reached, Any}

-- of any two machines with any states, inputs and outputs: a, and b that is to take its place. Rule 3 has a set of start states.
pub record Rules {S W Y : Type 0} (Start : S → Type 0) (a b : Machine S W Y) : Type 0 where
  -- b for n cycles and then a for k are a
  pub rule_1 : (n k : ℕ) → 1 ≤ n
      → Equal Any Any (replicate n b ++ replicate k a) (replicate (n + k) a)
      → (s : S) → Forever a b s
  -- after n cycles of a, b is a for k
  pub rule_2 : (n k : ℕ) → 1 ≤ k
      → Equal Any Any (replicate n a ++ replicate k b) (replicate (n + k) a)
      → (s : S) → Reached Any Any a n s → Forever a b s
  -- b is a for n cycles from the start states, and then as in rule 2
  pub rule_3 : (n k : ℕ) → 1 ≤ n → 1 ≤ k
      → Equal Start Any (replicate n b) (replicate n a)
      → Equal Any Any (replicate n a ++ replicate k b) (replicate (n + k) a)
      → (s : S) → Start s → Forever a b s
  -- after n cycles of b, one more of b is one of a, to who sees k cycles
  pub rule_4 : (n k : ℕ) → 1 ≤ k
      → Equal Any Any (replicate n b ++ replicate k a) (replicate (n + 1) b ++ replicate (k - 1) a)
      → (s : S) → Reached Any Any b n s → Forever a b s

-- the same of the start states that a test tells
abbrev pub ToldRules : {S W Y : Type 0} → (S → Bool) → Machine S W Y → Machine S W Y → Type 0
ToldRules start a b = Rules (λ s. start s ≡ true) a b
