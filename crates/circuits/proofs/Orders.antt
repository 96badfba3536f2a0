-- Orders and the places in them: an order names each flop once, and so does its inverse.
use Rattle.std.proofs.Common.{◌≡◌, ℕ, zero, suc, ◌<◌, ◌≤◌, cond, eqb, ◌⊎◌, List, [], ◌∷◌, length, get_or, sym, ap, ◌∙◌, ⊎_elim, arith}
use Rattle.std.proofs.lemmas.List.FromFn.{length-map-range_with_len, get_or-map-range_with_len}
use Rattle.std.proofs.lemmas.Bool.{cases_eq}
use Rattle.std.proofs.lemmas.Bool.Decides.{nat_tests}
use Rattle.circuits.specs.Matched.{place, InSomeOrder, inverse}

-- what stands at the place of f is f
pub at_place : (p : List ℕ) (f d : ℕ) → place p f < length p → get_or p (place p f) d ≡ f
at_place [] f d h = grind arith
at_place (g ∷ p) f d h = grind (arith, nat_tests, at_place p f d)

-- a place is never past an entry that is f
pub place_le : (p : List ℕ) (f j d : ℕ) → j < length p → get_or p j d ≡ f → place p f ≤ j
place_le [] f j d h e = grind arith
place_le (g ∷ p) f zero d h e = grind (arith, nat_tests)
place_le (g ∷ p) f (suc j) d h e = grind (arith, nat_tests, place_le p f j d)

-- x, with m in the place of l
put : ℕ → ℕ → ℕ → ℕ
put l m x = cond (eqb x l) m x

put_is : (l m x : ℕ) → ((x ≡ l) × (put l m x ≡ m)) ⊎ ((x ≡ l → ⊥) × (put l m x ≡ x))
unfolding put
put_is l m x = grind (arith, nat_tests)

-- a one-to-one map of 0 to l - 1 into itself meets each number
pub each_met : (l : ℕ) (g : ℕ → ℕ) → ((f : ℕ) → f < l → g f < l) → ((f h : ℕ) → f < l → h < l → g f ≡ g h → f ≡ h)
    → (j : ℕ) → j < l → (f : ℕ) × ((f < l) × (g f ≡ j))
each_met zero g low one j h = absurd (omega arith)
each_met (suc l) g low one j h = ⊎_elim (λ e. (l, (omega arith, e))) (λ ne.
    let m = g l in
    let is = put_is l m in
    let not_last : (f : ℕ) → f < l → g f ≡ m → ⊥ = λ f k e. omega (arith, one f l (omega arith) (omega arith) e) in
    let below : (x : ℕ) → x < suc l → (x ≡ m → ⊥) → put l m x < l = λ x k n. omega (arith, is x, low l (omega arith)) in
    let met = each_met l (λ f. put l m (g f)) (λ f k. below (g f) (low f (omega arith)) (not_last f k))
    (λ f h a b e. one f h (omega arith) (omega arith) (omega (arith, is (g f), is (g h), not_last f a, not_last h b)))
    (put l m j) (below j h (λ e. ne (sym e))) in
    let f = met.0 in
    (f, (omega (arith, met.1.0), omega (arith, met.1.1, is (g f), is j, not_last f met.1.0))))
    (cases_eq (g l) j)

module _ (l : ℕ) (p : List ℕ) (o : InSomeOrder l p) where
  -- no two flops have one place
  one_place : (f h : ℕ) → f < l → h < l → place p f ≡ place p h → f ≡ h
  one_place f h a b e =
      let n = o.0 in let lf = o.1 f a in let lh = o.1 h b in
      let x = at_place p f 0 (omega arith) in let y = at_place p h 0 (omega arith) in cc

  pub names_flops : (j : ℕ) → j < l → (get_or p j 0 < l) × (place p (get_or p j 0) ≡ j)
  names_flops j h =
      let met = each_met l (place p) o.1 one_place j h in
      let f = met.0 in let e = met.1.1 in
      let n = o.0 in
      let x : get_or p j 0 ≡ f = ap (λ k. get_or p k 0) (sym e) ∙ at_place p f 0 (omega arith) in
      (omega (arith, met.1.0), ap (place p) x ∙ e)

  -- the inverse has at k the place of k
  pub inverse_at : (k : ℕ) → k < l → get_or (inverse p) k 0 ≡ place p k
  inverse_at k h = let n = o.0 in get_or-map-range_with_len (place p) 0 (length p) k k 0 (omega arith) (omega arith)

  pub inverse_in_order : InSomeOrder l (inverse p)
  inverse_in_order =
      let n : length (inverse p) ≡ l = length-map-range_with_len (place p) 0 (length p) ∙ o.0 in (
        n,
        λ f h.
            let k = names_flops f h in let b = k.0 in
            let le = place_le (inverse p) f (get_or p f 0) 0 (omega arith) (inverse_at (get_or p f 0) k.0 ∙ k.1) in omega arith,
      )

  pub place_inverse : (f : ℕ) → f < l → place (inverse p) (place p f) ≡ f
  place_inverse f h =
      let q = inverse p in let j = place p f in
      let n = inverse_in_order.0 in let b = inverse_in_order.1 j (o.1 f h) in
      one_place (place q j) f b h (sym (inverse_at (place q j) b) ∙ at_place q j 0 (omega arith))
