-- What a literal of a cycle is among the literals of the clauses.
use Rattle.std.proofs.Common.{◌≡◌, ℕ, zero, suc, ◌+◌, ◌*◌, ◌/◌, ◌%◌, ◌<◌, ◌≤◌, List, [], length, get_or, sym, refl, ap, ◌∙◌, subst, ap₂, arith}
use Rattle.std.proofs.lemmas.List.{take_all}
use Rattle.std.proofs.lemmas.Bool.Decides.{nat_tests}
use Rattle.circuits.specs.Net.{Net, Bounded, top, next_at, turned}
use Rattle.comparisons.specs.Clauses.{negated, off, named, gate_count, start, input}
use Rattle.comparisons.specs.Places.{net_at, flops_at, cycle_at}
use Rattle.comparisons.proofs.Numbered.{nets_named, bits_named}
use Rattle.comparisons.proofs.Sized.{Sized}
use Rattle.circuits.specs.Kinds.{IsKind}
use Rattle.circuits.specs.declared.kind.NetKind.{NetKind}
use Rattle.circuits.specs.declared.kind.NetKind.TheVariants.{False, Input, Flop, Gate}
use Rattle.clauses.specs.declared.plan.Half.{Half}
use Rattle.clauses.specs.declared.plan.Half.TheVariants.{Left, Right}
use Rattle.clauses.specs.declared.shape.Shape.{Shape}
use Rattle.clauses.specs.Plans.{side_in, left_of, half_of}
use Rattle.clauses.specs.Shapes.{gates_ahead, gate_variable, own_variable, own_literal, AreSizes}
use Rattle.clauses.specs.Asked.{Compared, runs, OfCycle, first_of, names_in}
use Rattle.clauses.proofs.Rows.{Sizes, on_bounded, sized_on, length_half, count_before, runs_is, rows_placed}

-- inversion

turned_even : (r v : ℕ) → r < 2 → turned negated r (2 * v) ≡ 2 * v + r
turned_even zero v l = omega arith
turned_even (suc zero) v l = omega arith
turned_even (suc (suc r)) v l = absurd (omega arith)

-- the variable of each net
module _ (s : Shape) (half : Half) (t : ℕ) where
  var_off : own_variable s half t 0 ≡ 1
  var_off = refl

  var_input : (i : ℕ) → i < s.original.inputs → own_variable s half t (1 + i) ≡ 2 + s.original.flops + t * s.original.inputs + i
  var_input i l = grind (arith, nat_tests)

  var_flop : (j : ℕ) → j < s.original.flops → own_variable s half t (1 + s.original.inputs + j) ≡ 2 + j
  var_flop j l = grind (arith, nat_tests)

  var_gate : (g : ℕ) → own_variable s half t (1 + s.original.inputs + s.original.flops + g) ≡ gate_variable s half t g
  var_gate g = grind (arith, nat_tests)

module _ {c : Compared} (sizes : Sizes c) where
  abbrev s : Shape
  s = c.shape

  abbrev I : ℕ
  I = s.original.inputs

  abbrev L : ℕ
  L = s.original.flops

  -- the first variable of a gate of a row
  pub first_is : (half : Half) → first_of c half ≡ 2 + L + s.plan.cycles * I + gates_ahead s half
  first_is Left = let n = ap (λ m. m * I) (length_half sizes Left) in omega arith
  first_is Right =
      let n = ap (λ m. m * I) (length_half sizes Left) in
      let whole = take_all s.plan.cycles (left_of c.original c.gated s.plan) (omega (arith, length_half sizes Left)) in
      let count = ap gate_count (sym whole) ∙ count_before sizes Left s.plan.cycles (omega arith) in omega arith

  module _ (half : Half) (t : ℕ) (lt : t < s.plan.cycles) where
    abbrev net : Net
    net = net_at (half_of c.original c.gated s.plan half) t

    abbrev held : List ℕ
    held = flops_at (half_of c.original c.gated s.plan half) (start I L) (input I L) (first_of c half) t

    abbrev z : ℕ
    z = cycle_at (half_of c.original c.gated s.plan half) (start I L) (input I L) (first_of c half) t

    abbrev Nets : List ℕ
    Nets = names_in c half t

    sized : Sized I L s.original.outputs net
    sized = subst (Sized I L s.original.outputs) (sym (runs_is sizes half t lt)) (sized_on sizes (side_in s.plan half t))

    bounded : Bounded net
    bounded = subst Bounded (sym (runs_is sizes half t lt)) (on_bounded sizes (side_in s.plan half t))

    -- net v of the cycle has this literal
    net_off : get_or Nets 0 off ≡ off
    unfolding names_in
    net_off = refl

    net_input : (i : ℕ) → i < I → get_or Nets (1 + i) off ≡ 2 * (2 + L + t * I + i)
    unfolding names_in
    net_input i l = (nets_named net held (input I L t) z).of_input i (omega (arith, sized.inputs_are)) ∙ (bits_named I L).of_input t i l

    net_flop : (j : ℕ) → j < L → get_or Nets (1 + I + j) off ≡ get_or held j off
    unfolding names_in
    net_flop j l =
        ap (λ m. get_or Nets (1 + m + j) off) (sym sized.inputs_are) ∙ (nets_named net held (input I L t) z).of_flop j (omega (arith, sized.flops_are))

    net_gate : (g : ℕ) → g < length net.operands → get_or Nets (1 + I + L + g) off ≡ 2 * gate_variable s half t g
    unfolding names_in
    net_gate g l =
        let before = count_before sizes half t (omega arith) in
        let first = first_is half in
        ap₂ (λ m n. get_or Nets (1 + m + n + g) off) (sym sized.inputs_are) (sym sized.flops_are)
        ∙ (nets_named net held (input I L t) z).of_gate g l ∙ omega arith

    -- by the net that a literal names
    by_net : (x v w : ℕ) → x / 2 ≡ v → get_or Nets v off ≡ 2 * w → own_variable s half t v ≡ w → own_literal s half t x ≡ named Nets x
    by_net x v w e n o =
        let own : own_variable s half t (x / 2) ≡ w = ap (own_variable s half t) e ∙ o in
        let net : get_or Nets (x / 2) off ≡ 2 * w = ap (λ u. get_or Nets u off) e ∙ n in
        ap (λ u. 2 * u + x % 2) own ∙ sym (ap (turned negated (x % 2)) net ∙ turned_even (x % 2) w (omega arith))

    -- a literal of any kind of net, of a flop in cycle 0
    own : (x : ℕ) → OfCycle c half t x → (kind : NetKind) → IsKind s.original (x / 2) kind → ((j : ℕ) → kind ≡ Flop j → t ≡ 0)
        → own_literal s half t x ≡ named Nets x
    own x o False is start_flop = by_net x 0 1 is net_off (var_off s half t)
    own x o (Input i) is start_flop = by_net x (1 + i) _ is.1 (net_input i is.0) (var_input s half t i is.0)
    own x o (Flop j) is start_flop =
        let at_start = (bits_named I L).of_start j is.0 in
        let first = subst (λ u. get_or (flops_at (half_of c.original c.gated s.plan half) (start I L) (input I L) (first_of c half) u) j off ≡ 2 * (2 + j)) (sym (start_flop j refl)) at_start in
        by_net x (1 + I + j) (2 + j) is.1 (net_flop j is.0 ∙ first) (var_flop s half t j is.0)
    own x o (Gate g) is start_flop =
        let below : x ≤ top net.counts = subst (λ (n : Net). x ≤ top n.counts) (sym (runs_is sizes half t lt)) o in
        by_net x (1 + I + L + g) _ is (net_gate g (omega (arith, sized.inputs_are, sized.flops_are, bounded.operands_are))) (var_gate s half t g)

  -- a flop is what its next literal is in the cycle before
  flop_later : (half : Half) (t j : ℕ) → t < s.plan.cycles → j < L
      → get_or (flops_at (half_of c.original c.gated s.plan half) (start I L) (input I L) (first_of c half) (suc t)) j off
      ≡ named (names_in c half t) (next_at (net_at (half_of c.original c.gated s.plan half) t) j)
  unfolding names_in
  flop_later Left t j l k = (rows_placed sizes []).of_left.flop_later t j (omega (arith, length_half sizes Left)) k
  flop_later Right t j l k = (rows_placed sizes []).of_right.flop_later t j (omega (arith, length_half sizes Right)) k

  later : (half : Half) (t x j : ℕ) → suc t < s.plan.cycles → IsKind s.original (x / 2) (Flop j)
      → turned negated (x % 2) (named (names_in c half t) (next_at (runs c half t) j)) ≡ named (names_in c half (suc t)) x
  later half t x j lt is =
      let by_side = ap (λ (n : Net). named (names_in c half t) (next_at n j)) (runs_is sizes half t (omega arith)) in
      let held = ap (λ v. get_or (names_in c half (suc t)) v off) is.1 ∙ net_flop half (suc t) lt j is.0 ∙ flop_later half t j (omega arith) is.0 in
      ap (turned negated (x % 2)) (sym (held ∙ by_side))

-- of a comparison c that code holds as v
module _ {v c : Compared} (is : v ≡ c) (original : Bounded v.original) (gated : Bounded v.gated) (are : AreSizes v.original.counts v.gated.counts v.fixed v.shape) where
  sizes : Sizes c
  sizes = subst Sizes is (record { original = original; gated = gated; are = are })

  shape : v.shape ≡ c.shape
  shape = ap (λ (w : Compared). w.shape) is

  own_is : (half : Half) (t x : ℕ) → t < c.shape.plan.cycles → OfCycle c half t x
      → (kind : NetKind) → IsKind v.shape.original (x / 2) kind → ((j : ℕ) → kind ≡ Flop j → t ≡ 0)
      → own_literal v.shape half t x ≡ named (names_in c half t) x
  own_is half t x lt o kind k start_flop =
      ap (λ s. own_literal s half t x) shape
      ∙ own sizes half t lt x o kind (subst (λ (s : Shape). IsKind s.original (x / 2) kind) shape k) start_flop

  pub own_unless_flop : (half : Half) (t x : ℕ) → t < c.shape.plan.cycles → OfCycle c half t x
      → (kind : NetKind) → IsKind v.shape.original (x / 2) kind → ((j : ℕ) → kind ≡ Flop j → ⊥)
      → own_literal v.shape half t x ≡ named (names_in c half t) x
  own_unless_flop half t x lt o kind k no_flop = own_is half t x lt o kind k (λ j e. absurd (no_flop j e))

  pub own_at_start : (half : Half) (t x : ℕ) → OfCycle c half t x → t ≡ 0
      → (kind : NetKind) → IsKind v.shape.original (x / 2) kind
      → own_literal v.shape half t x ≡ named (names_in c half t) x
  own_at_start half t x o start kind k = own_is half t x (omega (arith, c.shape.in_time.some_cycle)) o kind k (λ j e. start)

  -- a flop after cycle 0
  pub flop_by_next : (half : Half) (before t x j : ℕ) → before + 1 ≡ t → t < c.shape.plan.cycles → IsKind v.shape.original (x / 2) (Flop j)
      → turned negated (x % 2) (named (names_in c half before) (next_at (runs c half before) j)) ≡ named (names_in c half t) x
  flop_by_next half before t x j e lt k =
      let up : suc before ≡ t = omega arith in
      let flop = subst (λ (s : Shape). IsKind s.original (x / 2) (Flop j)) shape k in
      later sizes half before x j (omega arith) flop ∙ ap (λ u. named (names_in c half u) x) up
