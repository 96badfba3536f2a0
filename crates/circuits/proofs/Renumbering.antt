-- One circuit under two numberings of its nets.
use Rattle.std.proofs.Common.{◌≡◌, ℕ, ◌+◌, ◌-◌, ◌/◌, ◌<◌, Bool, false, ◌&&◌, List, [], ◌∷◌, ◌++◌, map, length, get_or, refl, ap, arith}
use Rattle.std.proofs.lemmas.Grind.{common_steps}
use Rattle.circuits.specs.Net.{value, gate_values}
use Rattle.circuits.specs.Renumbered.{renumbered, both_renumbered}

-- nets below and above agree through a renumbering; nets past the ends go on in step
pub record Agree (to : ℕ → ℕ) (below above : List Bool) : Type 0 where
  pub inside : (v : ℕ) → v < length below → to v < length above
  pub same : (v : ℕ) → v < length below → get_or above (to v) false ≡ get_or below v false
  pub onward : (i : ℕ) → to (length below + i) ≡ length above + i

module _ (to : ℕ → ℕ) (below above : List Bool) (a : Agree to below above) where
  -- past the ends both are false
  pub same_everywhere : (v : ℕ) → get_or above (to v) false ≡ get_or below v false
  same_everywhere v = grind (arith, common_steps, a.same v, a.onward (v - length below))

  pub same_value : (x : ℕ) → value above (renumbered to x) ≡ value below x
  same_value x = grind (arith, common_steps, same_everywhere (x / 2))

  -- with the same nets after both
  pub agree_append : (more : List Bool) → Agree to (below ++ more) (above ++ more)
  agree_append more = record {
    inside = λ v h. grind (arith, common_steps, a.inside v, a.onward (v - length below));
    same = λ v h. grind (arith, common_steps, a.inside v, a.same v, a.onward (v - length below));
    onward = λ i. grind (arith, common_steps, a.onward (length more + i));
  }

-- the values of the gates are the same
pub same_gates : (to : ℕ → ℕ) (gs : List (ℕ × ℕ)) (below above : List Bool) → Agree to below above
    → gate_values (map (both_renumbered to) gs) above ≡ gate_values gs below
same_gates to [] below above a = refl
same_gates to (g ∷ gs) below above a =
    let b = value below g.0 && value below g.1 in
    rw (same_value to below above a g.0, same_value to below above a g.1)
    (ap (λ bs. b ∷ bs) (same_gates to gs (below ++ b ∷ []) (above ++ b ∷ []) (agree_append to below above a (b ∷ []))))

-- a renumbered literal has above the value that the literal has below
pub same_values : (to : ℕ → ℕ) (gs : List (ℕ × ℕ)) (below above : List Bool) → Agree to below above → (x : ℕ)
    → value (above ++ gate_values (map (both_renumbered to) gs) above) (renumbered to x) ≡ value (below ++ gate_values gs below) x
same_values to gs below above a x =
    rw (same_gates to gs below above a)
    (same_value to (below ++ gate_values gs below) (above ++ gate_values gs below) (agree_append to below above a (gate_values gs below)) x)
