-- What padding keeps: the bounds, and what a cycle gives.
use Rattle.std.proofs.Common.{◌≡◌, ℕ, ◌+◌, ◌*◌, ◌<◌, ◌≤◌, Bool, false, leb, List, [], ◌∷◌, ◌++◌, map, length, get_or, take, drop, sym, refl, ap, ◌∙◌, subst, ap₂, arith}
use mathlib.Core.List.{map-map}
use Rattle.std.proofs.Props.{props}
use Rattle.std.specs.List.{AllByRecursion}
use Rattle.std.proofs.lemmas.List.FromFn.{fill_by_all, take-map-range_with_len}
use Rattle.std.proofs.ByRecursion.{All-append, All-map, All-weaker}
use Rattle.std.proofs.lemmas.List.{append_assoc, get_or_append_left, length-append, length-map, map-append, take-append-drop}
use Rattle.std.proofs.lemmas.Bool.{cond-false, cond-true, le-leb, lt-leb}
use Rattle.std.proofs.lemmas.Grind.{common_steps}
use Rattle.std.proofs.lemmas.Bool.Decides.{nat_tests}
use Rattle.circuits.specs.declared.counts.Counts.{Counts}
use Rattle.circuits.specs.declared.dummy.Dummy.{Dummy}
use Rattle.circuits.specs.Net.{Net, Bounded, top, gate_at, gate_literal, first, before, value, values}
use Rattle.circuits.specs.Renumbered.{renumbered, both_renumbered}
use Rattle.circuits.specs.Padded.{moved_up, padded, Fitting, PaddingLaws}
use Rattle.circuits.proofs.NetsBefore.{first_whole, length_before}
use Rattle.circuits.proofs.Renumbering.{Agree, same_values}

-- one dummy that fits
abbrev pub Fits : Counts → Dummy → Type 0
Fits c d = (d.next ≤ top c) × (d.pin ≤ 2)

-- dummies fit in one way, so that a struct may keep the fact
pub Fitting-prop : (c : Counts) (ds : List Dummy) → IsProp (Fitting c ds)
Fitting-prop c ds = Prim.hlevel props

renumbered_le : (c : Counts) (d x : ℕ) → renumbered (moved_up c d) x ≤ x + 2 * d
renumbered_le c d x = grind (arith, nat_tests)

pub padded_gate : (n : Net) (ds : List Dummy) (i : ℕ) → gate_at (padded n ds) i ≡ both_renumbered (moved_up n.counts (length ds)) (gate_at n i)
padded_gate n ds i = grind (arith, common_steps)

pub padded_bounded : (n : Net) (ds : List Dummy) → Bounded n → Fitting n.counts ds → Bounded (padded n ds)
padded_bounded n ds b f =
    let c = n.counts in
    let c' = (padded n ds).counts in
    let to : ℕ → ℕ = moved_up c (length ds) in
    let up_le : (x : ℕ) → renumbered to x ≤ x + 2 * length ds = renumbered_le c (length ds) in
    let Low : ℕ → Type 0 = λ x. x ≤ top c in
    let Low' : ℕ → Type 0 = λ x. x ≤ top c' in
    let all-low : (xs : List ℕ) → AllByRecursion Low xs → AllByRecursion Low' (map (renumbered to) xs) = λ xs h.
    All-map Low' (renumbered to) xs (All-weaker Low (λ x. Low' (renumbered to x)) (λ x l. omega (arith, up_le x)) xs h) in
    let dummies-low : AllByRecursion Low (map (λ d. d.next) ds) =
    All-map Low (λ d. d.next) ds (All-weaker (Fits c) (λ d. d.next ≤ top c) (λ _ h. h.0) ds f.1) in
    let dummy-pins : AllByRecursion (λ p. p ≤ 2) (map (λ d. d.pin) ds) =
    All-map (λ p. p ≤ 2) (λ d. d.pin) ds (All-weaker (Fits c) (λ d. d.pin ≤ 2) (λ _ h. h.1) ds f.1) in
    record {
      counts_in = record {
        few_inputs = b.counts_in.few_inputs;
        few_flops = f.0;
        few_gates = b.counts_in.few_gates;
        some_output = b.counts_in.some_output;
        few_outputs = b.counts_in.few_outputs;
      };
      operands_are = length-map n.operands (both_renumbered to) ∙ b.operands_are;
      nexts_are = simp (length-map, length-append) (omega (arith, b.nexts_are));
      pins_are = simp (length-map, length-append) (omega (arith, b.pins_are));
      outs_are = length-map n.outs (renumbered to) ∙ b.outs_are;
      operands_in = λ i h.
          let g = gate_at n i in
          let o = b.operands_in i h in
          let In : ℕ × ℕ → Type 0 = λ g'. (g'.0 < gate_literal c' i) × (g'.1 < gate_literal c' i) in
          subst In (sym (padded_gate n ds i)) (omega (arith, o.0, up_le g.0), omega (arith, o.1, up_le g.1));
      nexts_in = all-low (n.nexts ++ map (λ d. d.next) ds) (All-append Low n.nexts (map (λ d. d.next) ds) b.nexts_in dummies-low);
      pins_in = All-append (λ p. p ≤ 2) n.pins (map (λ d. d.pin) ds) b.pins_in dummy-pins;
      outs_in = all-low n.outs b.outs_in;
    }

module _ (n : Net) (ds : List Dummy) (state held inputs : List Bool) (l : length state ≡ n.counts.flops) where
  abbrev to : ℕ → ℕ
  to = moved_up n.counts (length ds)

  -- the nets before the gates, without the dummies and with them
  abbrev below : List Bool
  below = before false n.counts state inputs

  abbrev above : List Bool
  above = before false (padded n ds).counts (state ++ held) inputs

  -- the dummies' bits come last
  held_after : (rest : List Bool) × (above ≡ below ++ rest)
  held_after =
      let f : ℕ = n.counts.flops in
      let front : List Bool = false ∷ first false n.counts.inputs inputs in
      let own : List Bool = first false f state in
      let all : List Bool = first false (f + length ds) (state ++ held) in
      let e : take f all ≡ own =
      take-map-range_with_len (λ k. get_or (state ++ held) k false) 0 (f + length ds) f (omega arith)
      ∙ sym (fill_by_all (λ k. get_or (state ++ held) k false) state f false l (λ k h. sym (get_or_append_left state held false k (omega arith))))
      ∙ sym (first_whole false f state l) in
      let split : all ≡ own ++ drop f all = sym (take-append-drop f all) ∙ ap (λ xs. xs ++ drop f all) e in
      (drop f all, ap (λ xs. front ++ xs) split ∙ sym (append_assoc front own (drop f all)))

  agree : Agree to below above
  agree =
      let m : ℕ = n.counts.inputs + n.counts.flops in
      let lb : length below ≡ 1 + m = omega (arith, length_before false n.counts state inputs) in
      let la : length above ≡ 1 + m + length ds = omega (arith, length_before false (padded n ds).counts (state ++ held) inputs) in
      let kept : (v : ℕ) → v < length below → to v ≡ v = λ v h. cond-true (leb v m) v (v + length ds) (le-leb v m (omega arith)) in
      record {
        inside = λ v h. omega (arith, kept v h);
        same = λ v h. ap₂ (λ xs i. get_or xs i false) held_after.1 (kept v h) ∙ get_or_append_left below held_after.0 false v h;
        onward = λ i.
            let v : ℕ = length below + i in
            cond-false (leb v m) v (v + length ds) (lt-leb v m (omega arith)) ∙ omega arith;
      }

  same_bits : (xs : List ℕ)
      → map (value (values (padded n ds) (state ++ held) inputs)) (map (renumbered to) xs) ≡ map (value (values n state inputs)) xs
  same_bits [] = refl
  same_bits (x ∷ xs) = ap₂ (λ b bs. b ∷ bs) (same_values to n.operands below above agree x) (same_bits xs)

pub padding_laws : (n : Net) (ds : List Dummy) → Bounded n → Fitting n.counts ds → PaddingLaws n ds
padding_laws n ds b f =
    record {
      bounds_kept = padded_bounded n ds b f;
      same_outputs = λ state held inputs l. same_bits n ds state held inputs l n.outs;
      same_nexts = λ state held inputs l. same_bits n ds state held inputs l (n.nexts ++ map (λ d. d.next) ds) ∙ simp (map-append, map-map);
    }
