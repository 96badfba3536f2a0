-- Numbers in decimal: what is written is read, and what is read was written.
use Rattle.std.proofs.Common.{◌≡◌, ℕ, zero, suc, ◌+◌, ◌-◌, ◌*◌, ◌/◌, ◌%◌, ◌^◌, ◌<◌, ◌≤◌, true, false, cond, eqb, ltb, leb, List, [], ◌∷◌, ◌++◌, Some, None, decimal, Option, sym, refl, ap, ◌∙◌, inl, inr, append_assoc, arith}
use Rattle.std.proofs.lemmas.Bool.{ne_eqb, lt-ltb, cases_Bool, and_parts, leb-true, ltb-true, eqb-true, eqb-false}
use Rattle.std.proofs.lemmas.Fmt.{decimal_by_steps, decimal_step, decimal_digit}
use Rattle.aiger.specs.Lines.{then, digits, numeral, is_digit}
use Rattle.aiger.proofs.Fronts.{digit_is}

first_digit : (n : ℕ) → n < 10 → 0 < n → (t : List ℕ) → numeral ((48 + n) ∷ t) ≡ digits n t
first_digit n h p t =
    let d : is_digit (48 + n) ≡ true = digit_is (48 + n) (omega arith) (omega arith) in
    let e : 48 + n - 48 ≡ n = omega arith in
    let z : eqb n 0 ≡ false = ne_eqb n 0 (λ q. omega arith) in
    rw (d, e, z) refl

next_digit : (n : ℕ) → n < 2 ^ 32 → (t : List ℕ) → digits (n / 10) ((48 + n % 10) ∷ t) ≡ digits n t
next_digit n h t =
    let d : is_digit (48 + n % 10) ≡ true = digit_is (48 + n % 10) (omega arith) (omega arith) in
    let e : n / 10 * 10 + (48 + n % 10 - 48) ≡ n = omega arith in
    let b : ltb n (2 ^ 32) ≡ true = lt-ltb n (2 ^ 32) h in
    rw (d, e, b) refl

-- a number's digits bring the scan to the number, whatever follows
scanned : (n : ℕ) → 0 < n → n < 2 ^ 32 → (t : List ℕ) → numeral (decimal n ++ t) ≡ digits n t
scanned n p h t =
    decimal_by_steps (λ m ds. 0 < m → m < 2 ^ 32 → (u : List ℕ) → numeral (ds ++ u) ≡ digits m u)
    (λ m l q k u. first_digit m l q u)
    (λ m ds l ih q k u. ap numeral (append_assoc ds ((48 + m % 10) ∷ []) u) ∙ ih (omega arith) (omega arith) ((48 + m % 10) ∷ u) ∙ next_digit m k u)
    n (omega arith) p h t

stops : (n b : ℕ) (t : List ℕ) → is_digit b ≡ false → digits n (b ∷ t) ≡ Some (n, b ∷ t)
stops n b t e = rw e refl

zero_read : (t : List ℕ) → numeral (decimal 0 ++ t) ≡ Some (0, t)
zero_read t = ap (λ (ds : List ℕ). numeral (ds ++ t)) (decimal_digit 0 (omega arith))

pub numeral_read : (n b : ℕ) (t : List ℕ) → n < 2 ^ 32 → is_digit b ≡ false → numeral (decimal n ++ (b ∷ t)) ≡ Some (n, b ∷ t)
numeral_read zero b t h e = zero_read (b ∷ t)
numeral_read (suc m) b t h e = scanned (suc m) (omega arith) h (b ∷ t) ∙ stops (suc m) b t e

-- t is the number n, below 2 ^ 32, and then u
abbrev pub Begins : List ℕ → ℕ → List ℕ → Type 0
Begins t n u = (t ≡ decimal n ++ u) × (n < 2 ^ 32)

digit_parts : (b : ℕ) → is_digit b ≡ true → (48 ≤ b) × (b ≤ 57)
digit_parts b e = let p = and_parts (leb 48 b) (leb b 57) e in (leb-true 48 b p.0, leb-true b 57 p.1)

same_front : (n m : ℕ) (t u : List ℕ) → n < 2 ^ 32 → ◌≡◌ {A = Option (ℕ × List ℕ)} (Some (n, t)) (Some (m, u)) → Begins (decimal n ++ t) m u
same_front n m t u h e =
    let w : ◌≡◌ {A = ℕ × List ℕ} (n, t) (m, u) = cc in
    let p : n ≡ m = ap (λ (x : ℕ × List ℕ). x.0) w in let q : t ≡ u = ap (λ (x : ℕ × List ℕ). x.1) w in let r : decimal n ++ t ≡ decimal m ++ u = cc in (r, omega arith)

one_digit_more : (n b : ℕ) (t : List ℕ) → 0 < n → 48 ≤ b → b ≤ 57 → n * 10 + (b - 48) < 2 ^ 32 → decimal n ++ (b ∷ t) ≡ decimal (n * 10 + (b - 48)) ++ t
one_digit_more n b t p l k h =
    let s = decimal_step (n * 10 + (b - 48)) (omega arith) (omega arith) in
    let a : (n * 10 + (b - 48)) / 10 ≡ n = omega arith in
    let d : 48 + (n * 10 + (b - 48)) % 10 ≡ b = omega arith in
    let w : decimal (n * 10 + (b - 48)) ≡ decimal n ++ (b ∷ []) = s ∙ rw (a, d) refl in
    sym (ap (λ (x : List ℕ). x ++ t) w ∙ append_assoc (decimal n) (b ∷ []) t)

digits_exact : (t u : List ℕ) (n m : ℕ) → 0 < n → n < 2 ^ 32 → digits n t ≡ Some (m, u) → Begins (decimal n ++ t) m u
digits_exact [] u n m p h e = same_front n m [] u h e
digits_exact (b ∷ t) u n m p h e = elim (cases_Bool (is_digit b)) [
  | inr no' ↦ same_front n m (b ∷ t) u h (sym (ap (λ q. cond q (cond (ltb (n * 10 + (b - 48)) (2 ^ 32)) (digits (n * 10 + (b - 48)) t) None) (Some (n, b ∷ t))) no') ∙ e)
  | inl is ↦
      let f : cond (ltb (n * 10 + (b - 48)) (2 ^ 32)) (digits (n * 10 + (b - 48)) t) None ≡ Some (m, u)
      = sym (ap (λ q. cond q (cond (ltb (n * 10 + (b - 48)) (2 ^ 32)) (digits (n * 10 + (b - 48)) t) None) (Some (n, b ∷ t))) is) ∙ e in
      let d = digit_parts b is in
      elim (cases_Bool (ltb (n * 10 + (b - 48)) (2 ^ 32))) [
        | inr big ↦ let z = ap (λ q. cond q (digits (n * 10 + (b - 48)) t) None) big in absurd (cc)
        | inl small ↦
            let s = ltb-true (n * 10 + (b - 48)) (2 ^ 32) small in
            let i = digits_exact t u (n * 10 + (b - 48)) m (omega arith) s (sym (ap (λ q. cond q (digits (n * 10 + (b - 48)) t) None) small) ∙ f) in
            (one_digit_more n b t p d.0 d.1 s ∙ i.0, i.1)
      ]
]

pub numeral_exact : (t u : List ℕ) (n : ℕ) → numeral t ≡ Some (n, u) → Begins t n u
numeral_exact [] u n e = absurd (cc)
numeral_exact (b ∷ t) u n e = elim (cases_Bool (is_digit b)) [
  | inr no' ↦ let z : numeral (b ∷ t) ≡ None = rw no' refl in absurd (cc)
  | inl is ↦
      let d = digit_parts b is in
      let f : cond (eqb (b - 48) 0) (Some (0, t)) (digits (b - 48) t) ≡ Some (n, u)
      = sym (ap (λ q. then (cond q (Some (b - 48, t)) None) (λ k v. cond (eqb k 0) (Some (0, v)) (digits k v))) is) ∙ e in
      let z : decimal (b - 48) ++ t ≡ b ∷ t
      = ap (λ (x : List ℕ). x ++ t) (decimal_digit (b - 48) (omega arith)) ∙ ap (λ k. k ∷ t) (omega arith) in
      let whole : Begins (decimal (b - 48) ++ t) n u = elim (cases_Bool (eqb (b - 48) 0)) [
        | inl nought ↦
            let o : b - 48 ≡ 0 = eqb-true (b - 48) 0 nought in
            same_front (b - 48) n t u (omega arith) (ap (λ k. Some (k, t)) o ∙ sym (ap (λ q. cond q (Some (0, t)) (digits (b - 48) t)) nought) ∙ f)
        | inr other ↦
            let o : 0 < b - 48 = omega (arith, eqb-false (b - 48) 0 other) in
            digits_exact t u (b - 48) n o (omega arith) (sym (ap (λ q. cond q (Some (0, t)) (digits (b - 48) t)) other) ∙ f)
      ] in
      (sym z ∙ whole.0, whole.1)
]
