-- Pairs of operands that are looked at one after the other, against those of each gate.
use Rattle.std.proofs.Common.{◌≡◌, ◌↔◌, ℕ, ◌+◌, ◌*◌, ◌<◌, Bool, true, false, List, [], map, length, get_or, sym, refl, subst, arith}
use Rattle.std.specs.Bool.{IsTrue, MatchBool}
use Rattle.std.specs.List.{enumerate_from, AllWithin, HoldsAt}
use Rattle.std.proofs.lemmas.List.FromFn.{length-enumerate_from, get_or-enumerate_from}
use Rattle.std.proofs.Math.ListN.{get_or-map}
use Rattle.circuits.specs.declared.counts.Counts.{Counts}
use Rattle.circuits.specs.Net.{gate_literal}
use Rattle.netlists.proofs.Cuts.{pair_of}

-- both words of a pair are below a limit that rises by two from pair to pair
abbrev pub Low : ℕ → ℕ × List ℕ → Type 0
Low first p = (get_or p.1 0 0 < first + 2 * p.0) × (get_or p.1 1 0 < first + 2 * p.0)

module _ (c : Counts) (pairs : List (List ℕ)) (many : length pairs ≡ c.gates) where
  abbrev first : ℕ
  first = 2 * (1 + c.inputs + c.flops)

  abbrev LowAt : ℕ → Type 0
  LowAt i = ((get_or (map pair_of pairs) i (0, 0)).0 < gate_literal c i) × ((get_or (map pair_of pairs) i (0, 0)).1 < gate_literal c i)

  at_pair : (i : ℕ) → i < c.gates → Low first (get_or (enumerate_from 0 pairs) i (0, [])) → LowAt i
  at_pair i h l =
      let p : Low first (0 + i, get_or pairs i []) = subst (Low first) (get_or-enumerate_from 0 pairs i (0, []) (omega arith)) l in
      subst (λ (g : ℕ × ℕ). (g.0 < gate_literal c i) × (g.1 < gate_literal c i)) (sym (get_or-map pair_of pairs i [])) (omega arith, omega arith)

  of_pair : (i : ℕ) → i < c.gates → LowAt i → Low first (get_or (enumerate_from 0 pairs) i (0, []))
  of_pair i h l =
      let p = subst (λ (g : ℕ × ℕ). (g.0 < gate_literal c i) × (g.1 < gate_literal c i)) (get_or-map pair_of pairs i []) l in
      subst (Low first) (sym (get_or-enumerate_from 0 pairs i (0, []) (omega arith))) (omega arith, omega arith)

  pub low_each : (r : Bool)
      → MatchBool r (AllWithin (Low first) (enumerate_from 0 pairs) 0 (length (enumerate_from 0 pairs)))
      ((k : ℕ) × (k < length (enumerate_from 0 pairs)) × HoldsAt (λ p. Low first p → ⊥) (enumerate_from 0 pairs) k)
      → IsTrue r ↔ ((i : ℕ) → i < c.gates → LowAt i)
  low_each true all =
      ((λ _ i h. at_pair i h (all i (0, []) (omega arith) (omega (arith, length-enumerate_from 0 pairs)))), (λ _. refl))
  low_each false (k, h, bad) =
      ((λ e. absurd cc), (λ low. absurd (bad (0, []) (of_pair k (omega (arith, length-enumerate_from 0 pairs)) (low k (omega (arith, length-enumerate_from 0 pairs)))))))
