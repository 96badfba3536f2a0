-- Equal comparisons make the verdict of their rule true, and their clauses decide whether they are equal.
use Rattle.std.proofs.Common.{◌≡◌, ℕ, ◌+◌, ◌-◌, ◌≤◌, Bool, List, [], ◌∷◌, ◌++◌, map, length, replicate, sym, refl, ◌∙◌, subst₂, arith}
use lib.ListN.{length-replicate}
use Rattle.std.specs.List.{AllByRecursion}
use Rattle.circuits.specs.Net.{Net, Bounded}
use Rattle.comparisons.specs.declared.rule.Rule.{Rule}
use Rattle.comparisons.specs.declared.rule.Rule.TheVariants.{Everywhere, AfterOriginal, FromPins, AfterGated}
use Rattle.comparisons.specs.Machine as spec
use Rattle.comparisons.specs.Machine.{Machine, Any, Forever, machine, Bits, FitsPins}
use Rattle.comparisons.specs.Table.{Comparison, row, comparisons, DeepEnough, Alike, Verdict, EqualRows}
use Rattle.comparisons.specs.Clauses.{pin_literals, formula}
use Rattle.comparisons.specs.Places.{Placed}
use Rattle.comparisons.specs.Laws.{ClausesDecide, Comparable, Compares}
use Rattle.comparisons.proofs.Repeats.{all_replicate, all_row, length_row, map_replicate, map_row}
use Rattle.comparisons.proofs.Sequences.{Equal, to_list, all_any}
use Rattle.comparisons.proofs.RulesHold.{rules}
use Rattle.comparisons.proofs.Sized.{Sized}
use Rattle.comparisons.proofs.Sizes.{few_variables, length_pins}
use Rattle.comparisons.proofs.Lengths.{lengths_agree, clauses_sound}
use Rattle.comparisons.proofs.Numbered.{placed, nets_named, bits_named, pins_placed}

-- Rows that fit each other, of at most so many cycles.

pub record Fit (inputs flops outs most : ℕ) (c : Comparison) : Type 0 where
  pub inputs_are : c.inputs ≡ inputs
  pub flops_are : c.flops ≡ flops
  pub left_fits : AllByRecursion (Sized c.inputs c.flops outs) c.left
  pub right_fits : AllByRecursion (Sized c.inputs c.flops outs) c.right
  pub as_long : length c.left ≡ length c.right
  pub pins_fit : length c.pins ≤ c.flops
  pub short : length c.left ≤ most
  pub left_bounded : AllByRecursion Bounded c.left
  pub right_bounded : AllByRecursion Bounded c.right

module _ (a b : Net) (ba : Bounded a) (bb : Bounded b) (fb : Sized a.counts.inputs a.counts.flops a.counts.outputs b) where
  abbrev I : ℕ
  I = a.counts.inputs

  abbrev L : ℕ
  L = a.counts.flops

  abbrev O : ℕ
  O = a.counts.outputs

  -- a bounded circuit of the size of a, and n such
  abbrev Usable : Net → Type 0
  Usable x = Sized I L O x × Bounded x

  abbrev AllUsable : ℕ → List Net → Type 0
  AllUsable n xs = (length xs ≡ n) × AllByRecursion (Sized I L O) xs × AllByRecursion Bounded xs

  usable_a : Usable a
  usable_a = (record { inputs_are = refl; flops_are = refl; nexts_are = ba.nexts_are; outs_are = ba.outs_are }, ba)

  -- cycles of one, and cycles of one and then of the other
  same_usable : (x : Net) → Usable x → (n : ℕ) → AllUsable n (replicate n x)
  same_usable x u n = (length-replicate n x, all_replicate (Sized I L O) n x u.0, all_replicate Bounded n x u.1)

  row_usable : (x y : Net) → Usable x → Usable y → (n k : ℕ) → AllUsable (n + k) (row n x k y)
  row_usable x y u v n k = (length_row x y n k, all_row (Sized I L O) x y u.0 v.0 n k, all_row Bounded x y u.1 v.1 n k)

  rows_fit : (pins : List ℕ) → length pins ≤ L → (n most : ℕ) → n ≤ most → (left right : List Net) → AllUsable n left → AllUsable n right
      → Fit I L O most (record { inputs = I; flops = L; pins = pins; left = left; right = right })
  rows_fit pins p n most s left right x y = record {
    inputs_are = refl;
    flops_are = refl;
    left_fits = x.1;
    right_fits = y.1;
    as_long = x.0 ∙ sym y.0;
    pins_fit = p;
    short = omega (arith, x.0);
    left_bounded = x.2;
    right_bounded = y.2;
  }

  -- cycles of one and then of the other, against cycles of a, from any start
  against_a : (x y : Net) → Usable x → Usable y → (n k : ℕ)
      → Fit I L O (n + k) (record { inputs = I; flops = L; pins = []; left = row n x k y; right = replicate (n + k) a })
  against_a x y u v n k =
      rows_fit [] (omega arith) (n + k) (n + k) (omega arith) (row n x k y) (replicate (n + k) a) (row_usable x y u v n k) (same_usable a usable_a (n + k))

  pub fit : (rule : Rule) (n k : ℕ) → DeepEnough rule n k → AllByRecursion (Fit I L O (n + k)) (comparisons a b rule n k)
  fit Everywhere n k deep = (against_a b a (fb, bb) usable_a n k, tt)
  fit AfterOriginal n k deep = (against_a a b usable_a (fb, bb) n k, tt)
  fit FromPins n k deep = (
    rows_fit a.pins (omega (arith, ba.pins_are)) n (n + k) (omega arith) (replicate n b) (replicate n a)
        (same_usable b (fb, bb) n) (same_usable a usable_a n),
    (against_a a b usable_a (fb, bb) n k, tt),
  )
  fit AfterGated n k deep =
      let (l, s, i) = row_usable b a (fb, bb) usable_a (n + 1) (k - 1) in (
        rows_fit [] (omega arith) (n + k) (n + k) (omega arith) (row n b k a) (row (n + 1) b (k - 1) a)
            (row_usable b a (fb, bb) usable_a n k) (l ∙ omega arith, s, i),
        tt,
      )

-- over rows of bits of any lengths
abbrev EqualTotal : Comparison → Type 0
EqualTotal c = Equal (FitsPins c.pins) (map machine c.left) (map machine c.right)

module _ (inputs flops outs most : ℕ) where
  totals : (cs : List Comparison) → AllByRecursion (Fit inputs flops outs most) cs → AllByRecursion EqualRows cs → AllByRecursion EqualTotal cs
  totals [] f e = tt
  totals (c ∷ cs) (f, fs) (e, es) =
      ((lengths_agree c.inputs c.flops outs c.pins c.left c.right f.left_fits f.right_fits f.as_long f.pins_fit).1 e, totals cs fs es)

  decided : (cs : List Comparison) → AllByRecursion (Fit inputs flops outs most) cs → AllByRecursion ClausesDecide cs
  decided [] f = tt
  decided (c ∷ cs) (f, fs) =
      (clauses_sound c.inputs c.flops outs c.pins c.left c.right f.left_fits f.right_fits f.as_long f.pins_fit, decided cs fs)

  all_placed : (cs : List Comparison) → AllByRecursion (Fit inputs flops outs most) cs
      → AllByRecursion (λ (c : Comparison). Placed c.inputs c.flops outs (pin_literals c.pins 2) c.left c.right) cs
  all_placed [] f = tt
  all_placed (c ∷ cs) (f, fs) = (
    placed c.inputs c.flops outs (pin_literals c.pins 2) c.left c.right f.left_fits f.right_fits f.as_long f.left_bounded f.right_bounded,
    all_placed cs fs,
  )

  gates_few : (row : List Net) → AllByRecursion Bounded row → AllByRecursion (λ net. length net.operands ≤ 8192) row
  gates_few [] b = tt
  gates_few (net ∷ row) (b, bs) = (omega (arith, b.operands_are, b.counts_in.few_gates), gates_few row bs)

  pub few : inputs ≤ 256 → flops ≤ 256 → outs ≤ 256 → most ≤ 8 → (cs : List Comparison) → AllByRecursion (Fit inputs flops outs most) cs
      → AllByRecursion (λ (c : Comparison). (formula c).variables ≤ 135681) cs
  few i f o m [] fits = tt
  few i f o m (c ∷ cs) (ft, fits) = (
    few_variables c.inputs c.flops outs (pin_literals c.pins 2) c.left c.right ft.left_fits ft.right_fits ft.as_long
        (omega (arith, length_pins c.pins 2, ft.pins_fit)) (omega (arith, ft.inputs_are)) (omega (arith, ft.flops_are)) o (omega (arith, ft.short))
        (gates_few c.left ft.left_bounded) (gates_few c.right ft.right_bounded),
    few i f o m cs fits,
  )

-- on lists, from a set of start states
listed : (Start : List Bool → Type 0) (left right : List (Machine (List Bool) (List Bool) (List Bool))) → length left ≡ length right
    → Equal Start left right → spec.Equal Start Any left right
listed Start left right l = to_list [] Start Any left right l

-- no pins allow every start
unpinned : (left right : List (Machine (List Bool) (List Bool) (List Bool))) → Equal (FitsPins []) left right → Equal Any left right
unpinned left right equal s p ws = equal s (λ j. tt) ws

module _ (a b : Net) where
  abbrev Total : List Net → List Net → Type 0
  Total left right = Equal (FitsPins []) (map machine left) (map machine right)

  -- n cycles of x and k of y against m of z, as machines on lists
  against : (x y z : Net) (n k m : ℕ) → n + k ≡ m → Total (row n x k y) (replicate m z)
      → spec.Equal Any Any (replicate n (machine x) ++ replicate k (machine y)) (replicate m (machine z))
  against x y z n k m l e =
      listed Any (replicate n (machine x) ++ replicate k (machine y)) (replicate m (machine z)) (length_row (machine x) (machine y) n k ∙ l ∙ sym (length-replicate m (machine z)))
      (unpinned (replicate n (machine x) ++ replicate k (machine y)) (replicate m (machine z)) (subst₂ (Equal (FitsPins [])) (map_row machine x y n k) (map_replicate machine m z) e))

  -- a state that is reached, on inputs of any lengths
  any_reached : (m : Machine (List Bool) (List Bool) (List Bool)) (Start Input : List Bool → Type 0) (n : ℕ) (s : List Bool)
      → spec.Reached Start Input m n s → spec.Reached Any Any m n s
  any_reached m Start Input n s (x, (p, (ws, (l, i, e)))) = (x, (tt, (ws, (l, all_any ws, e))))

  true_verdict : (rule : Rule) (n k : ℕ) → DeepEnough rule n k → AllByRecursion EqualTotal (comparisons a b rule n k) → Verdict a b rule n k
  true_verdict Everywhere n k deep (e, x) s p = (rules (machine a) (machine b) Any).rule_1 n k deep (against b a a n k (n + k) refl e) s
  true_verdict AfterOriginal n k deep (e, x) s p =
      (rules (machine a) (machine b) Any).rule_2 n k deep (against a b a n k (n + k) refl e) s
      (any_reached (machine a) (Bits a.counts.flops) (Bits a.counts.inputs) n s p)
  true_verdict FromPins n k deep (e, (g, x)) s p =
      (rules (machine a) (machine b) (FitsPins a.pins)).rule_3 n k deep.0 deep.1
      (listed (FitsPins a.pins) (replicate n (machine b)) (replicate n (machine a)) (length-replicate n (machine b) ∙ sym (length-replicate n (machine a)))
      (subst₂ (Equal (FitsPins a.pins)) (map_replicate machine n b) (map_replicate machine n a) e))
      (against a b a n k (n + k) refl g) s p.1
  true_verdict AfterGated n k deep (e, x) s p =
      (rules (machine a) (machine b) Any).rule_4 n k deep
      (listed Any (replicate n (machine b) ++ replicate k (machine a)) (replicate (n + 1) (machine b) ++ replicate (k - 1) (machine a))
      (length_row (machine b) (machine a) n k ∙ omega arith ∙ sym (length_row (machine b) (machine a) (n + 1) (k - 1)))
      (unpinned (replicate n (machine b) ++ replicate k (machine a)) (replicate (n + 1) (machine b) ++ replicate (k - 1) (machine a))
      (subst₂ (Equal (FitsPins [])) (map_row machine b a n k) (map_row machine b a (n + 1) (k - 1)) e)))
      s (any_reached (machine b) (Bits b.counts.flops) (Bits b.counts.inputs) n s p)

pub sized_like : (rule : Rule) (a b : Net) → Bounded b → Alike rule a b → Sized a.counts.inputs a.counts.flops a.counts.outputs b
sized_like rule a b bb like = record {
  inputs_are = sym like.inputs;
  flops_are = sym like.flops;
  nexts_are = bb.nexts_are ∙ sym like.flops;
  outs_are = bb.outs_are ∙ sym like.outputs;
}

pub compares : (rule : Rule) (n k : ℕ) (a b : Net) → Bounded a → Bounded b → Comparable rule n k a b → Compares rule n k a b
compares rule n k a b ba bb can =
    let I = a.counts.inputs in
    let L = a.counts.flops in
    let O = a.counts.outputs in
    let cs = comparisons a b rule n k in
    let c = ba.counts_in in
    let fits = fit a b ba bb (sized_like rule a b bb can.alike) rule n k can.in_table.0 in
    record {
      sound = λ equal. true_verdict a b rule n k can.in_table.0 (totals I L O (n + k) cs fits equal);
      clauses_decide = decided I L O (n + k) cs fits;
      placed = all_placed I L O (n + k) cs fits;
      nets_named = nets_named;
      bits_named = bits_named I L;
      pins_placed = pins_placed a.pins;
      few_variables = few I L O (n + k) c.few_inputs c.few_flops c.few_outputs can.in_table.1 cs fits;
    }
