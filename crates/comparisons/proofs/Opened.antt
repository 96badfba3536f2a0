-- What the checks of opening decide.
use Rattle.std.proofs.Common.{◌≡◌, ℕ, ◌+◌, ◌≤◌, Bool, true, false, not, ◌&&◌, eqb, leb, List, [], ◌∷◌, map, Some, None, Option, sym, refl, ap, ◌∙◌, ap₂, inl, inr, arith}
use Rattle.std.specs.List.{AllByRecursion}
use Rattle.std.proofs.lemmas.Bool.Decides.{nat_tests}
use Rattle.std.proofs.lemmas.Bool.{both_ways, cases_Bool, and_parts, and_from, and_left, and_right, eqb-true, leb-true, not-false, not_from_true}
use Rattle.circuits.specs.Checks.{first_due}
use Rattle.circuits.specs.Net.{Net, Bounded}
use Rattle.circuits.proofs.Checking.{all_passed, none_due}
use Rattle.comparisons.specs.declared.fault.OpenFault.TheVariants.{SizesDiffer, OutsideTable, PinsDiffer, ManyVariables}
use Rattle.comparisons.specs.declared.rule.Rule.{Rule}
use Rattle.comparisons.specs.declared.rule.Rule.TheVariants.{Everywhere, AfterOriginal, FromPins, AfterGated}
use Rattle.comparisons.specs.Table.{Comparison, comparisons, DeepEnough, InTable}
use Rattle.comparisons.specs.Clauses.{formula}
use Rattle.comparisons.specs.Opening.{rule_of, same_sizes, deep_enough, in_table, uses_pins, same_list, formulas, few_variables, open_checks}
use Rattle.comparisons.specs.Laws.{Comparable, OpensComparable}
use Rattle.comparisons.proofs.Verdicts.{compares}

pub same_lists : (xs ys : List ℕ) → same_list xs ys ≡ true → xs ≡ ys
same_lists [] [] e = refl
same_lists [] (y ∷ ys) e = cc
same_lists (x ∷ xs) [] e = cc
same_lists (x ∷ xs) (y ∷ ys) e =
    let (here, there) = and_parts (eqb x y) (same_list xs ys) e in ap₂ ◌∷◌ (eqb-true x y here) (same_lists xs ys there)

pub same_self : (xs : List ℕ) → same_list xs xs ≡ true
same_self [] = refl
same_self (x ∷ xs) = grind (arith, nat_tests, same_self xs)

deep_true : (rule : Rule) (n k : ℕ) → deep_enough rule n k ≡ true → DeepEnough rule n k
deep_true Everywhere n k e = grind (arith, nat_tests)
deep_true AfterOriginal n k e = grind (arith, nat_tests)
deep_true FromPins n k e = grind (arith, nat_tests)
deep_true AfterGated n k e = grind (arith, nat_tests)

true_deep : (rule : Rule) (n k : ℕ) → DeepEnough rule n k → deep_enough rule n k ≡ true
true_deep Everywhere n k d = grind (arith, nat_tests)
true_deep AfterOriginal n k d = grind (arith, nat_tests)
true_deep FromPins n k d = grind (arith, nat_tests)
true_deep AfterGated n k d = grind (arith, nat_tests)

pub tabled : (n k : ℕ) (rule : Rule) → in_table (Some rule) n k ≡ true → InTable rule n k
tabled n k rule e =
    let (x, y) = and_parts (deep_enough rule n k) (leb (n + k) 8) e in (deep_true rule n k x, leb-true (n + k) 8 y)

pub in_the_table : (n k : ℕ) (rule : Rule) → InTable rule n k → in_table (Some rule) n k ≡ true
in_the_table n k rule t = let deep = true_deep rule n k t.0 in grind (arith, nat_tests)

few_all : (cs : List Comparison) → AllByRecursion (λ (c : Comparison). (formula c).variables ≤ 135681) cs → few_variables (map formula cs) ≡ true
few_all [] a = refl
few_all (c ∷ cs) (b, a) = grind (arith, nat_tests, few_all cs a)

pinned_rule : (rule : Rule) → uses_pins (Some rule) ≡ true → rule ≡ FromPins
pinned_rule Everywhere e = cc
pinned_rule AfterOriginal e = cc
pinned_rule FromPins e = refl
pinned_rule AfterGated e = cc

module _ (n k : ℕ) (a b : Net) (ba : Bounded a) (bb : Bounded b) where
  abbrev unlike : Option Rule → Bool
  unlike rule = uses_pins rule && not (same_list a.pins b.pins)

  sizes : not (same_sizes a.counts b.counts) ≡ false
      → (a.counts.inputs ≡ b.counts.inputs) × (a.counts.flops ≡ b.counts.flops) × (a.counts.outputs ≡ b.counts.outputs)
  sizes e = (grind (arith, nat_tests), grind (arith, nat_tests), grind (arith, nat_tests))

  -- where the first three checks pass, the rule can compare the circuits
  comparable : (rule : Option Rule) → not (same_sizes a.counts b.counts) ≡ false → not (in_table rule n k) ≡ false → unlike rule ≡ false
      → (r : Rule) × ((rule ≡ Some r) × Comparable r n k a b)
  comparable None s t p = cc
  comparable (Some r) s t p =
      let (i, l, o) = sizes s in
      let pins : r ≡ FromPins → a.pins ≡ b.pins
      = λ third. elim (cases_Bool (same_list a.pins b.pins)) [
        | inl e ↦ same_lists a.pins b.pins e
        | inr e ↦
            absurd (both_ways (unlike (Some r)) p
            (and_from (uses_pins (Some r)) (not (same_list a.pins b.pins)) (ap (λ q. uses_pins (Some q)) third) (ap not e)))
      ] in
      (r, (refl, record { alike = record { inputs = i; flops = l; outputs = o; pins = pins }; in_table = tabled n k r (not-false (in_table (Some r) n k) t) }))

  -- and where it can, all checks pass
  sizes_pass : (r : Rule) → Comparable r n k a b → not (same_sizes a.counts b.counts) ≡ false
  sizes_pass r can =
      let alike = can.alike in
      let inputs = alike.inputs in
      let flops = alike.flops in
      let outputs = alike.outputs in grind (arith, nat_tests)

  pins_pass : (r : Rule) → Comparable r n k a b → unlike (Some r) ≡ false
  pins_pass r can =
      elim (cases_Bool (uses_pins (Some r))) [
        | inl t ↦
            let same = ap (same_list a.pins) (sym (can.alike.pins (pinned_rule r t))) ∙ same_self a.pins in
            and_right (uses_pins (Some r)) (not (same_list a.pins b.pins)) (ap not same)
        | inr f ↦ and_left (uses_pins (Some r)) (not (same_list a.pins b.pins)) f
      ]

  few_pass : (r : Rule) → Comparable r n k a b → not (few_variables (formulas a b (Some r) n k)) ≡ false
  few_pass r can =
      not_from_true (few_variables (formulas a b (Some r) n k)) (few_all (comparisons a b r n k) (compares r n k a b ba bb can).few_variables)

  none : (rule : Option Rule) (r : Rule) → rule ≡ Some r → Comparable r n k a b → first_due (open_checks a b rule n k) ≡ None
  none rule r is can =
      ap (λ o. first_due (open_checks a b o n k)) is
      ∙ none_due (open_checks a b (Some r) n k)
      (sizes_pass r can, (not_from_true (in_table (Some r) n k) (in_the_table n k r can.in_table), (pins_pass r can, (few_pass r can, tt))))

  -- a check that is told is due, and those before it are not
  told_last : (x y z w : Bool) → first_due ((SizesDiffer, x) ∷ (OutsideTable, y) ∷ (PinsDiffer, z) ∷ (ManyVariables, w) ∷ []) ≡ Some ManyVariables
      → (x ≡ false) × (y ≡ false) × (z ≡ false) × (w ≡ true)
  told_last true y z w e = cc
  told_last false true z w e = cc
  told_last false false true w e = cc
  told_last false false false true e = (refl, refl, refl, refl)
  told_last false false false false e = cc

  never_last : (rule : Option Rule) → first_due (open_checks a b rule n k) ≡ Some ManyVariables → ⊥
  never_last rule e =
      let (x, y, z, w) = told_last (not (same_sizes a.counts b.counts)) (not (in_table rule n k)) (unlike rule) (not (few_variables (formulas a b rule n k))) e in
      let (r, (is, can)) = comparable rule x y z in
      both_ways (not (few_variables (formulas a b rule n k))) (ap (λ o. not (few_variables (formulas a b o n k))) is ∙ few_pass r can) w

pub opens_comparable : (rule n k : ℕ) (a b : Net) → Bounded a → Bounded b → OpensComparable rule n k a b
opens_comparable rule n k a b ba bb = record {
  decides = (
    λ e. let (sized, (tabled, (pinned, (few, over)))) = all_passed (open_checks a b (rule_of rule) n k) e in comparable n k a b ba bb (rule_of rule) sized tabled pinned,
    λ h. let (r, (is, can)) = h in none n k a b ba bb (rule_of rule) r is can,
  );
  few_enough = never_last n k a b ba bb (rule_of rule);
  compares = λ r is can. compares r n k a b ba bb can;
}
