-- What holds of the small circuits is mostly computed.
use Rattle.std.proofs.Common.{◌≡◌, ℕ, ◌<◌, ◌≤◌, Bool, true, false, not, ◌&&◌, List, [], ◌∷◌, length, get_or, sym, refl, ap, ◌∙◌, subst, arith}
use Rattle.std.specs.List.{range_with_len, AllByRecursion}
use Rattle.std.proofs.lemmas.List.FromFn.{length-range_with_len, get_or-range_with_len}
use Rattle.std.proofs.lemmas.List.Elements.{All-from_recursion}
use Rattle.std.proofs.lemmas.Bool.Decides.{nat_tests}
use Rattle.std.proofs.lemmas.Bool.{false≢true}
use Rattle.circuits.specs.Net.{Bounded}
use Rattle.circuits.proofs.Bounds.{in_bounds_parts}
use Rattle.comparisons.specs.Machine.{outputs, final, machine}
use Rattle.comparisons.specs.Samples.{Samples, delay, pair, gated_pair, counter, silent, at_two}

-- an enable that holds the old value matters only where the old value is put out
gated : (s x y : Bool) → (x && not (not (x && y) && not (not x && s))) ≡ (x && y)
gated s x y = grind (arith, nat_tests)

pair_equal_on : (s : List Bool) (ws : List (List Bool)) → length ws ≡ 2
    → (outputs (machine gated_pair ∷ machine pair ∷ []) s ws ≡ outputs (machine pair ∷ machine pair ∷ []) s ws)
    × (final (machine gated_pair ∷ machine pair ∷ []) s ws ≡ final (machine pair ∷ machine pair ∷ []) s ws)
pair_equal_on s [] l = absurd (omega arith)
pair_equal_on s (w ∷ []) l = absurd (omega arith)
pair_equal_on s (w ∷ x ∷ []) l =
    (ap (λ o. ((get_or s 0 false && get_or s 1 false) ∷ []) ∷ (o ∷ []) ∷ []) (gated (get_or s 1 false) (get_or w 0 false) (get_or w 1 false)), refl)
pair_equal_on s (w ∷ x ∷ y ∷ ws) l = absurd (omega arith)

high_only : (x y : Bool) → y ≡ false → (not x && y) ≡ false
high_only x y e = grind (arith, nat_tests)

counters_start : (s : List Bool) → get_or s 1 false ≡ false → (ws : List (List Bool)) → length ws ≡ 1
    → (outputs (machine at_two ∷ []) s ws ≡ outputs (machine silent ∷ []) s ws) × (final (machine at_two ∷ []) s ws ≡ final (machine silent ∷ []) s ws)
counters_start s e [] l = absurd (omega arith)
counters_start s e (w ∷ []) l = (ap (λ o. (o ∷ []) ∷ []) (high_only (get_or s 0 false) (get_or s 1 false) e), refl)
counters_start s e (w ∷ x ∷ ws) l = absurd (omega arith)

-- what holds of each number below n, one by one
each_below : (n : ℕ) (P : ℕ → Type 0) → AllByRecursion P (range_with_len 0 n) → (i : ℕ) → i < n → P i
each_below n P h i l =
    subst P (get_or-range_with_len 0 n i 0 l ∙ omega arith) (All-from_recursion P (range_with_len 0 n) h i 0 (omega (arith, length-range_with_len 0 n)))

delay_bounded : Bounded delay
delay_bounded = record {
  counts_in = in_bounds_parts delay.counts refl;
  operands_are = refl;
  nexts_are = refl;
  pins_are = refl;
  outs_are = refl;
  operands_in = λ i l. absurd (omega arith);
  nexts_in = (omega arith, tt);
  pins_in = (omega arith, tt);
  outs_in = (omega arith, tt);
}

pair_bounded : Bounded pair
pair_bounded = record {
  counts_in = in_bounds_parts pair.counts refl;
  operands_are = refl;
  nexts_are = refl;
  pins_are = refl;
  outs_are = refl;
  operands_in = each_below 1 _ ((omega arith, omega arith), tt);
  nexts_in = (omega arith, (omega arith, tt));
  pins_in = (omega arith, (omega arith, tt));
  outs_in = (omega arith, tt);
}

gated_bounded : Bounded gated_pair
gated_bounded = record {
  counts_in = in_bounds_parts gated_pair.counts refl;
  operands_are = refl;
  nexts_are = refl;
  pins_are = refl;
  outs_are = refl;
  operands_in = each_below 4 _ ((omega arith, omega arith), ((omega arith, omega arith), ((omega arith, omega arith), ((omega arith, omega arith), tt))));
  nexts_in = (omega arith, (omega arith, tt));
  pins_in = (omega arith, (omega arith, tt));
  outs_in = (omega arith, tt);
}

counter_bounded : (out : ℕ) → out ≤ 13 → Bounded (counter out)
counter_bounded out l = record {
  counts_in = in_bounds_parts (counter out).counts refl;
  operands_are = refl;
  nexts_are = refl;
  pins_are = refl;
  outs_are = refl;
  operands_in = each_below 4 _ ((omega arith, omega arith), ((omega arith, omega arith), ((omega arith, omega arith), ((omega arith, omega arith), tt))));
  nexts_in = (omega arith, (omega arith, tt));
  pins_in = (omega arith, (omega arith, tt));
  outs_in = (omega arith, tt);
}

pub samples : Samples
samples = record {
  delay_bounded = delay_bounded;
  delay_comparable = record { alike = record { inputs = refl; flops = refl; outputs = refl; pins = λ e. refl }; in_table = (omega arith, omega arith) };
  delay_formula = refl;
  pair_bounded = (pair_bounded, gated_bounded);
  pair_comparable = record { alike = record { inputs = refl; flops = refl; outputs = refl; pins = λ e. refl }; in_table = (omega arith, omega arith) };
  pair_variables = refl;
  pair_clauses = refl;
  pair_equal = (λ s p ws l a. pair_equal_on s ws l, tt);
  short_comparable = record { alike = record { inputs = refl; flops = refl; outputs = refl; pins = λ e. refl }; in_table = (omega arith, omega arith) };
  short_variables = refl;
  short_clauses = refl;
  short_finals = (refl, refl);
  short_unequal = λ e. false≢true (ap (λ s. get_or s 1 false) (e.0 (false ∷ false ∷ []) (refl, λ j. tt) ((false ∷ true ∷ []) ∷ []) refl (refl, tt)).1);
  counters_bounded = (counter_bounded 0 (omega arith), counter_bounded 12 (omega arith));
  counters_comparable = record { alike = record { inputs = refl; flops = refl; outputs = refl; pins = λ e. refl }; in_table = ((omega arith, omega arith), omega arith) };
  counters_agree = λ ws. (refl, refl);
  counters_differ = λ ws. (refl, refl);
  counters_two = refl;
  counters_first_equal = λ s p ws l a. counters_start s (p.1 1) ws l;
  counters_second_rows = (refl, refl);
  counters_second_unequal = λ e.
      false≢true (sym (ap (λ o. get_or (get_or o 1 []) 0 false) (e (true ∷ false ∷ []) (refl, λ j. tt) ([] ∷ [] ∷ []) refl (refl, (refl, tt))).0));
}
