-- What the lines of one kind write.
use Rattle.std.specs.Prelude.{◌≡◌, ℕ, ◌+◌, List, [], ◌∷◌, length}

-- the words after lines from line i on have been written into them in turn
abbrev pub writes : {X : Type 0} → (ℕ → X → List ℕ → List ℕ) → ℕ → List X → List ℕ → List ℕ
writes write i [] ws = ws
writes write i (x ∷ xs) ws = writes write (i + 1) xs (write i x ws)

-- n lines, written in turn into as many words as they take, leave exactly the words that they make
abbrev pub WritesWords : {X : Type 0} → (ℕ → ℕ → X → List ℕ → List ℕ) → (ℕ → ℕ) → (List X → List ℕ) → Type 0
WritesWords {X = X} write room words =
    (n : ℕ) (xs : List X) (ws : List ℕ) → length xs ≡ n → length ws ≡ room n → writes (write n) 0 xs ws ≡ words xs
