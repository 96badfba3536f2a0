-- Within a line the refusal of the lowest number is told.
use Rattle.std.proofs.Common.{◌≡◌, ℕ, ◌≤◌, true, false, List, [], ◌∷◌, Some, refl, subst, arith, lit<}
use Rattle.std.proofs.lemmas.Bool.{both_ways}
use Rattle.aiger.specs.declared.fault.Refusal.{Refusal}
use Rattle.aiger.specs.Laws.{InOrder}
use Rattle.circuits.specs.Checks.{Check, first_due}
use Rattle.aiger.specs.Refusals.{number, Rising, Lowest}

-- checks that rise above n have no number up to n
above : (n m : ℕ) (cs : List (Check Refusal)) → m ≤ n → Rising n cs → (r : Refusal) → number r ≡ m → Lowest r cs
above n m [] h k r e = tt
above n m (c ∷ cs) h k r e = let k₀ = k.0 in ((λ _. omega arith), above (number c.0) m cs (omega arith) k.1 r e)

lowest : (n : ℕ) (cs : List (Check Refusal)) (r : Refusal) → Rising n cs → first_due cs ≡ Some r → Lowest r cs
lowest n [] r k e = absurd (cc)
lowest n ((s, true) ∷ cs) r k e =
    let q : s ≡ r = cc in
    subst (λ (x : Refusal). Lowest x ((s, true) ∷ cs)) q ((λ _. omega arith), above (number s) (number s) cs (omega arith) k.1 s refl)
lowest n ((s, false) ∷ cs) r k e = ((λ d. absurd (both_ways false refl d)), lowest (number s) cs r k.1 e)

pub in_order : InOrder
in_order = record {
  headers = λ lent h. (lit< tt, (lit< tt, tt));
  inputs = λ i x. (lit< tt, tt);
  flops = λ c j f. (lit< tt, (lit< tt, (lit< tt, tt)));
  outputs = λ c x. (lit< tt, tt);
  gates = λ c i g. (lit< tt, (lit< tt, tt));
  lowest = lowest;
}
