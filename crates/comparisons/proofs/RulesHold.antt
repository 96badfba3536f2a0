-- The four rules hold of any two machines.
use Rattle.std.proofs.Common.{◌≡◌, ℕ, zero, suc, ◌+◌, ◌-◌, ◌<◌, ◌≤◌, List, [], ◌∷◌, ◌++◌, replicate, sym, refl, ap, ◌∙◌, subst, append_assoc, arith}
use lib.ListN.{replicate-append-replicate, length-replicate}
use Rattle.comparisons.specs.Machine as spec
use Rattle.comparisons.specs.Machine.{Machine, Any, output_at}
use Rattle.comparisons.specs.Rules.{Rules}
use Rattle.comparisons.proofs.Repeats.{length_row}
use Rattle.comparisons.proofs.Sequences.{rest, outputs, final, Equal, Reached, to_sequence, reached_along}

module _ {W : Type 0} where
  -- the inputs from cycle n on
  abbrev later : ℕ → (ℕ → W) → ℕ → W
  later zero ws = ws
  later (suc n) ws = later n (rest ws)

  -- the first n inputs of the one, then the other
  abbrev then : ℕ → (ℕ → W) → (ℕ → W) → ℕ → W
  then zero us ws t = ws t
  then (suc n) us ws zero = us 0
  then (suc n) us ws (suc t) = then n (rest us) ws t

  later_then : (n : ℕ) (us ws : ℕ → W) → later n (then n us ws) ≡ ws
  later_then zero us ws = refl
  later_then (suc n) us ws = later_then n (rest us) ws

module _ {S W Y : Type 0} where
  -- rows that agree: the first n cycles agree, and so does what comes after them
  parts : (a b : Machine S W Y) (n : ℕ) (p q : List (Machine S W Y)) (x y : S) (ws : ℕ → W)
      → outputs (replicate n a ++ p) x ws ≡ outputs (replicate n b ++ q) y ws
      → (outputs (replicate n a) x ws ≡ outputs (replicate n b) y ws)
      × (outputs p (final (replicate n a) x ws) (later n ws) ≡ outputs q (final (replicate n b) y ws) (later n ws))
  parts a b zero p q x y ws e = (refl, e)
  parts a b (suc n) p q x y ws e =
      let more = parts a b n p q (a.next x (ws 0)) (b.next y (ws 0)) (rest ws) (cc) in
      (cc more.0, more.1)

  final_parts : (a : Machine S W Y) (n : ℕ) (p : List (Machine S W Y)) (x : S) (ws : ℕ → W)
      → final (replicate n a ++ p) x ws ≡ final p (final (replicate n a) x ws) (later n ws)
  final_parts a zero p x ws = refl
  final_parts a (suc n) p x ws = final_parts a n p (a.next x (ws 0)) (rest ws)

  final_then : (a : Machine S W Y) (n : ℕ) (x : S) (us ws : ℕ → W) → final (replicate n a) x (then n us ws) ≡ final (replicate n a) x us
  final_then a zero x us ws = refl
  final_then a (suc n) x us ws = final_then a n (a.next x (us 0)) (rest us) ws

  -- a machine that goes k cycles from x and from y with the same outputs, into the same state, does so for ever
  alike : (a : Machine S W Y) (k : ℕ) (x y : S) (ws : ℕ → W)
      → outputs (replicate k a) x ws ≡ outputs (replicate k a) y ws → final (replicate k a) x ws ≡ final (replicate k a) y ws
      → (t : ℕ) → output_at a x ws t ≡ output_at a y ws t
  alike a zero x y ws o f t = ap (λ z. output_at a z ws t) f
  alike a (suc k) x y ws o f zero = cc
  alike a (suc k) x y ws o f (suc t) = alike a k (a.next x (ws 0)) (a.next y (ws 0)) (rest ws) (cc) f t

  -- outputs that agree for n cycles, and for m cycles after those, agree for n + m
  longer : (a b : Machine S W Y) (n m : ℕ) (x y : S) (ws : ℕ → W)
      → outputs (replicate n a) x ws ≡ outputs (replicate n b) y ws
      → ((t : ℕ) → t < m → output_at a (final (replicate n a) x ws) (later n ws) t ≡ output_at b (final (replicate n b) y ws) (later n ws) t)
      → (t : ℕ) → t < n + m → output_at a x ws t ≡ output_at b y ws t
  longer a b zero m x y ws o h t l = h t (omega arith)
  longer a b (suc n) m x y ws o h zero l = cc
  longer a b (suc n) m x y ws o h (suc t) l = longer a b n m (a.next x (ws 0)) (b.next y (ws 0)) (rest ws) (cc) h t (omega arith)

  -- after the n cycles that two equal rows share, the rest of them is equal from wherever those lead
  after : (a : Machine S W Y) (n : ℕ) (p q : List (Machine S W Y))
      → Equal Any (replicate n a ++ p) (replicate n a ++ q) → Equal (Reached a n) p q
  after a n p q equal x (s, (us, e)) ws =
      let h = equal s tt (then n us ws) in
      let there : final (replicate n a) s (then n us ws) ≡ x = final_then a n s us ws ∙ e in
      let o = (parts a a n p q s s (then n us ws) h.0).1 in
      let f = sym (final_parts a n p s (then n us ws)) ∙ h.1 ∙ final_parts a n q s (then n us ws) in
      (rw (later_then n us ws, there) at o, rw (later_then n us ws, there) at f)

  -- one cycle more
  final_more : (a : Machine S W Y) (n : ℕ) (x : S) (ws : ℕ → W)
      → final (replicate n a) (a.next x (ws 0)) (rest ws) ≡ a.next (final (replicate n a) x ws) (later n ws 0)
  final_more a zero x ws = refl
  final_more a (suc n) x ws = final_more a n (a.next x (ws 0)) (rest ws)

  stays : (a : Machine S W Y) (n : ℕ) (x : S) → Reached a n x → (w : W) → Reached a n (a.next x w)
  stays a n x (s, (us, e)) w =
      let vs = then n us (λ t. w) in
      let there : final (replicate n a) s vs ≡ x = final_then a n s us (λ t. w) ∙ e in
      let on = final_more a n s vs in
      (a.next s (vs 0), (rest vs, rw (later_then n us (λ t. w), there) at on))

  stays_for : (a : Machine S W Y) (n k : ℕ) (x : S) → Reached a n x → (ws : ℕ → W) → Reached a n (final (replicate k a) x ws)
  stays_for a n zero x r ws = r
  stays_for a n (suc k) x r ws = stays_for a n k (a.next x (ws 0)) (stays a n x r (ws 0)) (rest ws)

  -- a^(n+k) is a^n, then a^k
  cut : (Start : S → Type 0) (a : Machine S W Y) (n k : ℕ) (p : List (Machine S W Y))
      → Equal Start p (replicate (n + k) a) → Equal Start p (replicate n a ++ replicate k a)
  cut Start a n k p equal = subst (Equal Start p) (sym (replicate-append-replicate n k a)) equal

  module _ (a b : Machine S W Y) where
    rule_1 : (n k : ℕ) → 1 ≤ n → Equal Any (replicate n b ++ replicate k a) (replicate (n + k) a)
        → (j : ℕ) (s : S) (ws : ℕ → W) (t : ℕ) → t < j → output_at a s ws t ≡ output_at b s ws t
    rule_1 n k n≥1 equal zero s ws t l = absurd (omega arith)
    rule_1 n k n≥1 equal (suc j) s ws t l =
        let h = cut Any a n k (replicate n b ++ replicate k a) equal s tt ws in
        let o = parts b a n (replicate k a) (replicate k a) s s ws h.0 in
        let f = sym (final_parts b n (replicate k a) s ws) ∙ h.1 ∙ final_parts a n (replicate k a) s ws in
        let same = alike a k (final (replicate n a) s ws) (final (replicate n b) s ws) (later n ws) (sym o.1) (sym f) in
        longer a b n j s s ws (sym o.0)
        (λ u i. same u ∙ rule_1 n k n≥1 equal j (final (replicate n b) s ws) (later n ws) u i) t (omega arith)

    -- rule 2, from states that the two cannot be told apart from in k cycles
    rule_2 : (n k : ℕ) → 1 ≤ k → Equal (Reached a n) (replicate k b) (replicate k a)
        → (j : ℕ) (s : S) → Reached a n s → (ws : ℕ → W) (t : ℕ) → t < j → output_at a s ws t ≡ output_at b s ws t
    rule_2 n k k≥1 equal zero s r ws t l = absurd (omega arith)
    rule_2 n k k≥1 equal (suc j) s r ws t l =
        let h = equal s r ws in
        longer a b k j s s ws (sym h.0)
        (λ u i. rw h.1 (rule_2 n k k≥1 equal j (final (replicate k a) s ws) (stays_for a n k s r ws) (later k ws) u i)) t (omega arith)

    rule_4 : (n k : ℕ) → Equal (Reached b n) (a ∷ replicate k a) (b ∷ replicate k a)
        → (t : ℕ) (s : S) → Reached b n s → (ws : ℕ → W) → output_at a s ws t ≡ output_at b s ws t
    rule_4 n k equal zero s r ws = let h = (equal s r ws).0 in cc
    rule_4 n k equal (suc t) s r ws =
        let h = equal s r ws in
        let o : outputs (replicate k a) (a.next s (ws 0)) (rest ws) ≡ outputs (replicate k a) (b.next s (ws 0)) (rest ws) = cc h.0 in
        alike a k (a.next s (ws 0)) (b.next s (ws 0)) (rest ws) o h.1 t ∙ rule_4 n k equal t (b.next s (ws 0)) (stays b n s r (ws 0)) (rest ws)

    rest_equal : (n k : ℕ) → Equal Any (replicate n a ++ replicate k b) (replicate (n + k) a) → Equal (Reached a n) (replicate k b) (replicate k a)
    rest_equal n k equal = after a n (replicate k b) (replicate k a) (cut Any a n k (replicate n a ++ replicate k b) equal)

    step_equal : (n k : ℕ) → 1 ≤ k → Equal Any (replicate n b ++ replicate k a) (replicate (n + 1) b ++ replicate (k - 1) a)
        → Equal (Reached b n) (a ∷ replicate (k - 1) a) (b ∷ replicate (k - 1) a)
    step_equal n zero k≥1 equal = absurd (omega arith)
    step_equal n (suc k) k≥1 equal =
        let down : suc k - 1 ≡ k = omega arith in
        let one_more : replicate (n + 1) b ++ replicate k a ≡ replicate n b ++ (b ∷ replicate k a)
        = rw (← replicate-append-replicate n 1 b) (append_assoc (replicate n b) (b ∷ []) (replicate k a)) in
        rw down (after b n (a ∷ replicate k a) (b ∷ replicate k a) (rw (down, one_more) at equal))

    rule_3 : (Start : S → Type 0) (n k : ℕ) → 1 ≤ k → Equal Start (replicate n b) (replicate n a) → Equal (Reached a n) (replicate k b) (replicate k a)
        → (s : S) → Start s → (ws : ℕ → W) (t : ℕ) → output_at a s ws t ≡ output_at b s ws t
    rule_3 Start n k k≥1 start equal s p ws t =
        let h = start s p ws in
        longer a b n (suc t) s s ws (sym h.0)
        (λ u i. rw h.1 (rule_2 n k k≥1 equal (suc u) (final (replicate n a) s ws) (s, (ws, refl)) (later n ws) u (omega arith)))
        t (omega arith)

  -- n cycles of one machine and k of another against n + k of a third, on lists
  against : (n k : ℕ) (a b c : Machine S W Y) → spec.Equal Any Any (replicate n a ++ replicate k b) (replicate (n + k) c)
      → Equal Any (replicate n a ++ replicate k b) (replicate (n + k) c)
  against n k a b c = to_sequence Any (replicate n a ++ replicate k b) (replicate (n + k) c) (length_row a b n k ∙ sym (length-replicate (n + k) c))

  pub rules : (a b : Machine S W Y) (Start : S → Type 0) → Rules Start a b
  rules a b Start = record {
    rule_1 = λ n k n≥1 equal s ws t. rule_1 a b n k n≥1 (against n k b a a equal) (suc t) s ws t (omega arith);
    rule_2 = λ n k k≥1 equal s r ws t.
        rule_2 a b n k k≥1 (rest_equal a b n k (against n k a b a equal)) (suc t) s (reached_along (ws 0) Any Any a n s r) ws t (omega arith);
    rule_3 = λ n k n≥1 k≥1 start equal s p ws t.
        rule_3 a b Start n k k≥1 (to_sequence Start (replicate n b) (replicate n a) (length-replicate n b ∙ sym (length-replicate n a)) start)
        (rest_equal a b n k (against n k a b a equal)) s p ws t;
    rule_4 = λ n k k≥1 equal s r ws t.
        rule_4 a b n (k - 1)
        (step_equal a b n k k≥1 (to_sequence Any (replicate n b ++ replicate k a) (replicate (n + 1) b ++ replicate (k - 1) a)
        (length_row b a n k ∙ omega arith ∙ sym (length_row b a (n + 1) (k - 1))) equal)) t s (reached_along (ws 0) Any Any b n s r) ws;
  }
