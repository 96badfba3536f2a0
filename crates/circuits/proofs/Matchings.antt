-- Matched circuits: their bounds, what a cycle gives, and the way back.
use Rattle.std.proofs.Common.{◌≡◌, ℕ, ◌+◌, ◌-◌, ◌*◌, ◌/◌, ◌%◌, ◌<◌, ◌≤◌, Bool, false, ◌⊎◌, List, map, length, get_or, sym, refl, ap, ◌∙◌, subst, ap₂, inl, inr, ⊎_elim, arith}
use Rattle.std.proofs.Math.ListN.{get_or-map as get_or-mapped}
use Rattle.std.proofs.ByRecursion.{All-map, All-weaker, All-from_get_or}
use Rattle.std.proofs.lemmas.List.{length-map, get_or-map, ext_get_or}
use Rattle.std.proofs.lemmas.Bool.{cases_lt}
use Rattle.std.proofs.lemmas.Bool.Decides.{nat_tests}
use Rattle.circuits.specs.declared.counts.Counts.{Counts}
use Rattle.circuits.specs.Net.{Net, Bounded, top, gate_at, gate_literal, next_at, pin_at, before, value, values}
use Rattle.circuits.specs.Renumbered.{renumbered, both_renumbered}
use Rattle.circuits.specs.Matched.{place, InSomeOrder, flops_moved, rewired, matched, inverse, permuted, MatchingLaws}
use Rattle.circuits.proofs.NetsBefore.{length_before, before_ins, before_flop}
use Rattle.circuits.proofs.Mapped.{map_twice, map_back}
use Rattle.circuits.proofs.Lookups.{next_low, pin_low}
use Rattle.circuits.proofs.Orders.{at_place, names_flops, inverse_in_order, inverse_at, place_inverse}
use Rattle.circuits.proofs.Renumbering.{Agree, same_values}

module _ (c : Counts) where
  -- net v is no flop
  abbrev pub Other : ℕ → Type 0
  Other v = (v ≤ c.inputs) ⊎ (c.inputs + c.flops < v)

  -- what holds of each flop and of each other net holds of each net
  pub each_net : (P : ℕ → Type 0) → ((f : ℕ) → f < c.flops → P (1 + c.inputs + f)) → ((v : ℕ) → Other v → P v) → (v : ℕ) → P v
  each_net P flop other v =
      ⊎_elim
      (λ a. ⊎_elim (λ b. other v (inr b))
      (λ b. let e : 1 + c.inputs + (v - (1 + c.inputs)) ≡ v = omega arith in subst P e (flop (v - (1 + c.inputs)) (omega arith)))
      (cases_lt (c.inputs + c.flops) v))
      (λ a. other v (inl a)) (cases_lt c.inputs v)

  pub moved_flop : (to : ℕ → ℕ) (f : ℕ) → f < c.flops → flops_moved c to (1 + c.inputs + f) ≡ 1 + c.inputs + to f
  moved_flop to f h = grind (arith, nat_tests)

  pub moved_other : (to : ℕ → ℕ) (v : ℕ) → Other v → flops_moved c to v ≡ v
  moved_other to v o = grind (arith, nat_tests)

  module _ (to : ℕ → ℕ) (low : (f : ℕ) → f < c.flops → to f < c.flops) where
    pub moved_below : (b : ℕ) → c.inputs + c.flops < b → (v : ℕ) → v < b → flops_moved c to v < b
    moved_below b h v k = grind (arith, nat_tests, low (v - (1 + c.inputs)))

    renumbered_below : (b : ℕ) → c.inputs + c.flops < b → (x : ℕ) → x < 2 * b → renumbered (flops_moved c to) x < 2 * b
    renumbered_below b h x l = omega (arith, moved_below b h (x / 2) (omega arith))

-- places within the flops give a bounded circuit
pub rewired_bounded : (n : Net) (p : List ℕ) (to : ℕ → ℕ) → Bounded n → length p ≡ n.counts.flops
    → ((f : ℕ) → f < n.counts.flops → to f < n.counts.flops) → Bounded (rewired n p to)
rewired_bounded n p to b lp low =
    let c = n.counts in
    let nets = flops_moved c to in
    let Fits : ℕ → Type 0 = λ x. x ≤ top c in
    let fits : (x : ℕ) → Fits x → Fits (renumbered nets x) =
    λ x h. omega (arith, renumbered_below c to low (1 + c.inputs + c.flops + c.gates) (omega arith) x (omega arith)) in
    record {
      counts_in = b.counts_in;
      operands_are = length-map n.operands (both_renumbered nets) ∙ b.operands_are;
      nexts_are = length-map p (λ f. renumbered nets (next_at n f)) ∙ lp;
      pins_are = length-map p (pin_at n) ∙ lp;
      outs_are = length-map n.outs (renumbered nets) ∙ b.outs_are;
      operands_in = λ i h.
          let l = b.operands_are in let in' = b.operands_in i h in
          let up = renumbered_below c to low (1 + c.inputs + c.flops + i) (omega arith) in
          subst (λ (g : ℕ × ℕ). (g.0 < gate_literal c i) × (g.1 < gate_literal c i))
          (sym (get_or-map (both_renumbered nets) n.operands i (0, 0) (0, 0) (omega arith)))
          (up (gate_at n i).0 in'.0, up (gate_at n i).1 in'.1);
      nexts_in = All-map Fits (λ f. renumbered nets (next_at n f)) p (All-from_get_or (λ f. Fits (renumbered nets (next_at n f))) p 0
          (λ i _. fits (next_at n (get_or p i 0)) (next_low n b (get_or p i 0))));
      pins_in = All-map (λ q. q ≤ 2) (pin_at n) p (All-from_get_or (λ f. pin_at n f ≤ 2) p 0
          (λ i _. pin_low n b (get_or p i 0)));
      outs_in = All-map Fits (renumbered nets) n.outs (All-weaker Fits (λ x. Fits (renumbered nets x)) fits n.outs b.outs_in);
    }

pub matched_bounded : (n : Net) (p : List ℕ) → Bounded n → InSomeOrder n.counts.flops p → Bounded (matched n p)
matched_bounded n p b o = rewired_bounded n p (place p) b o.0 o.1

-- a literal renumbered and renumbered back
renumbered_back : (s t : ℕ → ℕ) → ((v : ℕ) → s (t v) ≡ v) → (x : ℕ) → renumbered s (renumbered t x) ≡ x
renumbered_back s t back x =
    let q : (2 * t (x / 2) + x % 2) / 2 ≡ t (x / 2) = omega arith in
    let e = ap s q ∙ back (x / 2) in omega arith

module _ (l : ℕ) (p : List ℕ) (o : InSomeOrder l p) where
  -- what is changed and put in order, changed back and put in the inverse order, is as it was
  ordered_back : {X : Type 0} (s t : X → X) (d : X) → ((x : X) → s (t x) ≡ x) → (xs : List X) → length xs ≡ l
      → map (λ f. s (get_or (map (λ f. t (get_or xs f d)) p) f d)) (inverse p) ≡ xs
  ordered_back {X} s t d back xs lx =
      let q = inverse p in
      let there : ℕ → X = λ f. t (get_or xs f d) in
      let again : ℕ → X = λ f. s (get_or (map there p) f d) in
      let lq = (inverse_in_order l p o).0 in let lp = o.0 in let lm = length-map q again in
      ext_get_or d (map again q) xs (omega arith) (λ j h.
      let k : j < l = omega arith in
      let m = o.1 j k in
      get_or-map again q j 0 d (omega arith) ∙ ap again (inverse_at l p o j k)
      ∙ ap s (get_or-map there p (place p j) 0 d (omega arith)) ∙ back (get_or xs (get_or p (place p j) 0) d)
      ∙ ap (λ f. get_or xs f d) (at_place p j 0 (omega arith)))

pub matched_back : (n : Net) (p : List ℕ) → Bounded n → InSomeOrder n.counts.flops p → matched (matched n p) (inverse p) ≡ n
matched_back n p b o =
    let c = n.counts in
    let s = flops_moved c (place (inverse p)) in let t = flops_moved c (place p) in
    let back = renumbered_back s t (each_net c (λ v. s (t v) ≡ v)
    (λ f h. ap s (moved_flop c (place p) f h) ∙ moved_flop c (place (inverse p)) (place p f) (o.1 f h)
    ∙ ap (λ k. 1 + c.inputs + k) (place_inverse c.flops p o f h))
    (λ v k. ap s (moved_other c (place p) v k) ∙ moved_other c (place (inverse p)) v k)) in
    let gates = map_back (both_renumbered s) (both_renumbered t) (λ g. ap₂ (λ a b. (a, b)) (back g.0) (back g.1)) n.operands in
    let nexts = ordered_back c.flops p o (renumbered s) (renumbered t) 0 back n.nexts b.nexts_are in
    let pins = ordered_back c.flops p o (λ x. x) (λ x. x) 2 (λ _. refl) n.pins b.pins_are in
    let outs = map_back (renumbered s) (renumbered t) back n.outs in
    λ i. record { counts = c; operands = gates i; nexts = nexts i; pins = pins i; outs = outs i }

-- a state and the permuted state agree
agree : (c : Counts) (p : List ℕ) → InSomeOrder c.flops p → (state inputs : List Bool)
    → Agree (flops_moved c (place p)) (before false c state inputs) (before false c (permuted p state) inputs)
agree c p o state inputs =
    let below = before false c state inputs in let above = before false c (permuted p state) inputs in
    let lb = length_before false c state inputs in let la = length_before false c (permuted p state) inputs in
    let lp = o.0 in
    record {
      inside = λ v h. moved_below c (place p) o.1 (length above) (omega arith) v (omega arith);
      same = each_net c (λ v. v < length below → get_or above (flops_moved c (place p) v) false ≡ get_or below v false)
          (λ f h _.
          let k = o.1 f h in
          ap (λ m. get_or above m false) (moved_flop c (place p) f h) ∙ before_flop false c (permuted p state) inputs (place p f) k
          ∙ get_or-map (λ g. get_or state g false) p (place p f) 0 false (omega arith)
          ∙ ap (λ g. get_or state g false) (at_place p f 0 (omega arith)) ∙ sym (before_flop false c state inputs f h))
          (λ v k h.
          let l : v ≤ c.inputs = omega arith in
          ap (λ m. get_or above m false) (moved_other c (place p) v k)
          ∙ before_ins false c (permuted p state) inputs v l ∙ sym (before_ins false c state inputs v l));
      onward = λ i. moved_other c (place p) (length below + i) (inr (omega arith)) ∙ omega arith;
    }

pub matching_laws : (n : Net) (p : List ℕ) → Bounded n → InSomeOrder n.counts.flops p → MatchingLaws n p
matching_laws n p b o =
    let c = n.counts in
    let t = flops_moved c (place p) in
    let below : List Bool → List Bool → ℕ → Bool = λ state inputs. value (values n state inputs) in
    let above : List Bool → List Bool → ℕ → Bool = λ state inputs. value (values (matched n p) (permuted p state) inputs) in
    let same : (state inputs : List Bool) (x : ℕ) → above state inputs (renumbered t x) ≡ below state inputs x =
    λ state inputs. same_values t n.operands (before false c state inputs) (before false c (permuted p state) inputs)
    (agree c p o state inputs) in
    record {
      bounds_kept = matched_bounded n p b o;
      same_outputs = λ state inputs. map_twice (below state inputs) (above state inputs) (renumbered t) (same state inputs) n.outs;
      permuted_nexts = λ state inputs.
          let V = below state inputs in
          map_twice (λ f. get_or (map V n.nexts) f false) (above state inputs) (λ f. renumbered t (next_at n f))
          (λ f. same state inputs (next_at n f) ∙ sym (get_or-mapped V n.nexts f 0)) p;
      names_flops = names_flops c.flops p o;
      inverse_in_order = inverse_in_order c.flops p o;
      matched_back = matched_back n p b o;
    }
