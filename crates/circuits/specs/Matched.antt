-- Matched circuits: the flops of a circuit in another order.
use Rattle.std.specs.Prelude.{◌≡◌, ℕ, suc, ◌+◌, ◌-◌, ◌<◌, Bool, false, cond, ◌&&◌, List, [], ◌∷◌, map, length, ◌==◌, nat_le, nat_lt, slice_index, slice_index_or}
use Rattle.std.specs.List.{range_with_len}
use Rattle.circuits.specs.declared.counts.Counts.{Counts}
use Rattle.circuits.specs.Net.{Net, Bounded, next_at, pin_at, cycle_outs, cycle_nexts}
use Rattle.circuits.specs.Renumbered.{renumbered, both_renumbered}

-- where f stands first in p; the length of p where it does not stand in it
abbrev pub place : List ℕ → ℕ → ℕ
place [] f = 0
place (g ∷ p) f = cond (g == f) 0 (suc (place p f))

-- p is 0 to l - 1 in some order: it has l entries, and each of those numbers stands in it
abbrev pub InSomeOrder : ℕ → List ℕ → Type 0
InSomeOrder l p = (length p ≡ l) × ((f : ℕ) → f < l → place p f < l)

-- each flop f goes by the number of flop `to f`; other nets keep theirs
abbrev pub flops_moved : Counts → (ℕ → ℕ) → ℕ → ℕ
flops_moved c to v = cond (nat_lt c.inputs v && nat_le v (c.inputs + c.flops)) (1 + c.inputs + to (v - (1 + c.inputs))) v

-- a flop for each entry of p, which is that flop of n; where n names flop f, flop `to f` is named
abbrev pub rewired : Net → List ℕ → (ℕ → ℕ) → Net
rewired n p to =
    let nets = flops_moved n.counts to in
    record {
      counts = n.counts;
      operands = map (both_renumbered nets) n.operands;
      nexts = map (λ f. renumbered nets (next_at n f)) p;
      pins = map (pin_at n) p;
      outs = map (renumbered nets) n.outs;
    }

-- flop j is flop p(j) of n
abbrev pub matched : Net → List ℕ → Net
matched n p = rewired n p (place p)

-- the order that leads back
abbrev pub inverse : List ℕ → List ℕ
inverse p = map (place p) (range_with_len 0 (length p))

-- a state of n, as the flops of the matched circuit hold it
abbrev pub permuted : List ℕ → List Bool → List Bool
permuted p state = map (λ f. slice_index_or state f false) p

-- The laws of matching. Started in the permuted state, the matched circuit gives the same outputs and the permuted next state; matched
-- again by the inverse order, it is the circuit below.
pub record MatchingLaws (n : Net) (p : List ℕ) : Type 0 where
  pub bounds_kept : Bounded (matched n p)
  pub same_outputs : (state inputs : List Bool) → cycle_outs (matched n p) (permuted p state) inputs ≡ cycle_outs n state inputs
  pub permuted_nexts : (state inputs : List Bool)
      → cycle_nexts (matched n p) (permuted p state) inputs ≡ permuted p (cycle_nexts n state inputs)
  -- the order names each flop, and no flop twice
  pub names_flops : (j : ℕ) → j < n.counts.flops → (slice_index p j < n.counts.flops) × (place p (slice_index p j) ≡ j)
  pub inverse_in_order : InSomeOrder n.counts.flops (inverse p)
  pub matched_back : matched (matched n p) (inverse p) ≡ n
