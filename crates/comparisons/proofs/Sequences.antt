-- Rows on infinite sequences of inputs. Equality on sequences needs no lengths, so the rules are proved for it; here is that it is the same.
use Rattle.std.proofs.Common.{◌≡◌, ℕ, zero, suc, ◌<◌, List, [], ◌∷◌, length, get_or, replicate, sym, refl, ap, ◌∙◌, arith}
use lib.ListN.{length-replicate}
use Rattle.std.specs.List.{AllByRecursion}
use Rattle.comparisons.specs.Machine as spec
use Rattle.comparisons.specs.Machine.{Machine, Any}

-- the inputs after the first
abbrev pub rest : {W : Type 0} → (ℕ → W) → ℕ → W
rest ws t = ws (suc t)

-- the first n of a sequence
abbrev pub tabulate : {X : Type 0} → ℕ → (ℕ → X) → List X
tabulate zero f = []
tabulate (suc n) f = f 0 ∷ tabulate n (λ k. f (suc k))

pub length_tabulate : {X : Type 0} (n : ℕ) (f : ℕ → X) → length (tabulate n f) ≡ n
length_tabulate zero f = refl
length_tabulate (suc n) f = ap suc (length_tabulate n (λ k. f (suc k)))

pub all_tabulate : {X : Type 0} (P : X → Type 0) (n : ℕ) (f : ℕ → X) → ((k : ℕ) → k < n → P (f k)) → AllByRecursion P (tabulate n f)
all_tabulate P zero f p = tt
all_tabulate P (suc n) f p = (p 0 (omega arith), all_tabulate P n (λ k. f (suc k)) (λ k l. p (suc k) (omega arith)))

pub all_any : {X : Type 0} (xs : List X) → AllByRecursion Any xs
all_any [] = tt
all_any (x ∷ xs) = (tt, all_any xs)

module _ {S W Y : Type 0} where
  abbrev pub outputs : List (Machine S W Y) → S → (ℕ → W) → List Y
  outputs [] s ws = []
  outputs (m ∷ row) s ws = m.out s (ws 0) ∷ outputs row (m.next s (ws 0)) (rest ws)

  abbrev pub final : List (Machine S W Y) → S → (ℕ → W) → S
  final [] s ws = s
  final (m ∷ row) s ws = final row (m.next s (ws 0)) (rest ws)

  abbrev pub Equal : (S → Type 0) → List (Machine S W Y) → List (Machine S W Y) → Type 0
  Equal Start left right =
      (s : S) → Start s → (ws : ℕ → W) → (outputs left s ws ≡ outputs right s ws) × (final left s ws ≡ final right s ws)

  abbrev pub Reached : Machine S W Y → ℕ → S → Type 0
  Reached m n x = (s : S) × ((ws : ℕ → W) × (final (replicate n m) s ws ≡ x))

  -- a row on a sequence, and on the list of as many of its inputs
  pub on_list : (row : List (Machine S W Y)) (s : S) (n : ℕ) → n ≡ length row → (ws : ℕ → W)
      → (outputs row s ws ≡ spec.outputs row s (tabulate n ws)) × (final row s ws ≡ spec.final row s (tabulate n ws))
  on_list [] s n l ws = (refl, refl)
  on_list (m ∷ row) s zero l ws = absurd (omega arith)
  on_list (m ∷ row) s (suc n) l ws =
      let more = on_list row (m.next s (ws 0)) n (omega arith) (rest ws) in
      (ap (λ r. m.out s (ws 0) ∷ r) more.0, more.1)

  -- a row on a list, and on a sequence that begins with it
  pub on_sequence : (w : W) (row : List (Machine S W Y)) (s : S) (ws : List W) → length ws ≡ length row
      → (outputs row s (λ t. get_or ws t w) ≡ spec.outputs row s ws) × (final row s (λ t. get_or ws t w) ≡ spec.final row s ws)
  on_sequence w [] s ws l = (refl, refl)
  on_sequence w (m ∷ row) s [] l = absurd (omega arith)
  on_sequence w (m ∷ row) s (x ∷ ws) l =
      let more = on_sequence w row (m.next s x) ws (omega arith) in
      (ap (λ r. m.out s x ∷ r) more.0, more.1)

  pub to_list : (w : W) (Start : S → Type 0) (Input : W → Type 0) (left right : List (Machine S W Y)) → length left ≡ length right
      → Equal Start left right → spec.Equal Start Input left right
  to_list w Start Input left right l equal s p ws n any =
      let h = equal s p (λ t. get_or ws t w) in
      let a = on_sequence w left s ws n in
      let b = on_sequence w right s ws (n ∙ l) in
      (sym a.0 ∙ h.0 ∙ b.0, sym a.1 ∙ h.1 ∙ b.1)

  pub to_sequence : (Start : S → Type 0) (left right : List (Machine S W Y)) → length left ≡ length right
      → spec.Equal Start Any left right → Equal Start left right
  to_sequence Start left right l equal s p ws =
      let n = length left in
      let h = equal s p (tabulate n ws) (length_tabulate n ws) (all_any (tabulate n ws)) in
      let a = on_list left s n refl ws in
      let b = on_list right s n l ws in
      (a.0 ∙ h.0 ∙ sym b.0, a.1 ∙ h.1 ∙ sym b.1)

  -- a state that is reached on a list is reached on a sequence
  pub reached_along : (w : W) (Start : S → Type 0) (Input : W → Type 0) (m : Machine S W Y) (n : ℕ) (x : S) → spec.Reached Start Input m n x → Reached m n x
  reached_along w Start Input m n x (s, (p, (ws, (l, a, e)))) =
      (s, ((λ t. get_or ws t w), (on_sequence w (replicate n m) s ws (l ∙ sym (length-replicate n m))).1 ∙ e))
