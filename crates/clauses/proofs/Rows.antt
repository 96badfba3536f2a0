-- The rows of a comparison: their circuits, and how many gates these have.
use Rattle.std.proofs.Common.{◌≡◌, ℕ, zero, suc, ◌+◌, ◌-◌, ◌*◌, ◌<◌, ◌≤◌, min, List, [], ◌∷◌, ◌++◌, length, take, replicate, sym, refl, ap, ◌∙◌, ap₂, ⊎_elim, arith}
use lib.ListN.{length-replicate}
use Rattle.std.specs.List.{AllByRecursion}
use Rattle.std.proofs.lemmas.List.{get_or_append_left, get_or-append_right, get_or-replicate, take-replicate}
use Rattle.std.proofs.lemmas.Bool.{cases_lt}
use Rattle.circuits.specs.Held.{blank}
use Rattle.circuits.specs.Net.{Net, Bounded}
use Rattle.comparisons.specs.Clauses.{gate_count}
use Rattle.comparisons.specs.Places.{net_at, Placed}
use Rattle.comparisons.proofs.Repeats.{all_row, length_row}
use Rattle.comparisons.proofs.Sized.{Sized}
use Rattle.comparisons.proofs.Numbered.{placed}
use Rattle.circuits.specs.declared.side.Side.{Side}
use Rattle.circuits.specs.declared.side.Side.TheVariants.{Original, Gated}
use Rattle.clauses.specs.declared.plan.Half.{Half}
use Rattle.clauses.specs.declared.plan.Half.TheVariants.{Left, Right}
use Rattle.clauses.specs.declared.plan.Row.{Row}
use Rattle.clauses.specs.declared.shape.Shape.{Shape}
use Rattle.circuits.specs.Sides.{other_side}
use Rattle.clauses.specs.Plans.{on, half_row, half_of}
use Rattle.clauses.specs.Shapes.{AreSizes, gates_on, gates_before}
use Rattle.clauses.specs.Asked.{Compared, runs}
use Rattle.clauses.proofs.Gates.{side_before, side_from, turns}

-- how many gates a row has by one circuit and then by another

count_replicate : (n : ℕ) (x : Net) → gate_count (replicate n x) ≡ n * length x.operands
count_replicate zero x = omega arith
count_replicate (suc n) x = omega (arith, count_replicate n x)

count_append : (xs ys : List Net) → gate_count (xs ++ ys) ≡ gate_count xs + gate_count ys
count_append [] ys = omega arith
count_append (x ∷ xs) ys = omega (arith, count_append xs ys)

-- its first t cycles
take_two : {X : Type 0} (n k t : ℕ) (x y : X) → t ≤ n + k → take t (replicate n x ++ replicate k y) ≡ replicate (min t n) x ++ replicate (t - n) y
take_two zero k t x y l =
    let e : min t 0 ≡ 0 = omega arith in
    let d : t - 0 ≡ t = omega arith in
    rw (e, d) (take-replicate t k y (omega arith))
take_two (suc n) k zero x y l =
    let e : min 0 (suc n) ≡ 0 = omega arith in
    let d : 0 - suc n ≡ 0 = omega arith in
    rw (e, d) refl
take_two (suc n) k (suc t) x y l =
    let e : min (suc t) (suc n) ≡ suc (min t n) = omega arith in
    let d : suc t - suc n ≡ t - n = omega arith in
    rw (e, d) (ap (λ r. x ∷ r) (take_two n k t x y (omega arith)))

-- the sizes are those of the circuits, which are bounded
pub record Sizes (c : Compared) : Type 0 where
  pub original : Bounded c.original
  pub gated : Bounded c.gated
  pub are : AreSizes c.original.counts c.gated.counts c.fixed c.shape

module _ {c : Compared} (sizes : Sizes c) where
  abbrev s : Shape
  s = c.shape

  pub on_bounded : (d : Side) → Bounded (on c.original c.gated d)
  on_bounded Original = sizes.original
  on_bounded Gated = sizes.gated

  gates_are : (d : Side) → length (on c.original c.gated d).operands ≡ gates_on s d
  gates_are Original = sizes.original.operands_are ∙ ap (λ n. n.gates) (sym sizes.are.of_original)
  gates_are Gated = sizes.gated.operands_are ∙ ap (λ n. n.gates) (sym sizes.are.of_gated)

  -- each circuit has so many inputs, flops and outputs
  pub sized_on : (d : Side) → Sized s.original.inputs s.original.flops s.original.outputs (on c.original c.gated d)
  sized_on Original =
      let flops = ap (λ n. n.flops) (sym sizes.are.of_original) in
      let outputs = ap (λ n. n.outputs) (sym sizes.are.of_original) in
      record {
        inputs_are = ap (λ n. n.inputs) (sym sizes.are.of_original);
        flops_are = flops;
        nexts_are = sizes.original.nexts_are ∙ flops;
        outs_are = sizes.original.outs_are ∙ outputs;
      }
  sized_on Gated =
      let flops = ap (λ n. n.flops) (sym sizes.are.of_gated) ∙ sym s.same_flops in
      let outputs = ap (λ n. n.outputs) (sym sizes.are.of_gated) ∙ sym s.same_outputs in
      record {
        inputs_are = ap (λ n. n.inputs) (sym sizes.are.of_gated) ∙ sym s.same_inputs;
        flops_are = flops;
        nexts_are = sizes.gated.nexts_are ∙ flops;
        outs_are = sizes.gated.outs_are ∙ outputs;
      }

  module _ (half : Half) where
    abbrev r : Row
    r = half_row s.plan half

    abbrev f : ℕ
    f = s.plan.cycles

    abbrev x : Net
    x = on c.original c.gated r.front

    abbrev y : Net
    y = on c.original c.gated (other_side r.front)

    pub length_half : length (half_of c.original c.gated s.plan half) ≡ f
    length_half = length_row x y r.turn (f - r.turn) ∙ omega (arith, turns s half)

    -- the gates of the first t cycles
    pub count_before : (t : ℕ) → t ≤ f → gate_count (take t (half_of c.original c.gated s.plan half)) ≡ gates_before s half t
    count_before t l =
        ap gate_count (take_two r.turn (f - r.turn) t x y (omega arith))
        ∙ count_append (replicate (min t r.turn) x) (replicate (t - r.turn) y)
        ∙ ap₂ ◌+◌ (count_replicate (min t r.turn) x ∙ ap (λ g. min t r.turn * g) (gates_are r.front))
        (count_replicate (t - r.turn) y ∙ ap (λ g. (t - r.turn) * g) (gates_are (other_side r.front)))

    -- the circuit of cycle t
    pub runs_is : (t : ℕ) → t < f → net_at (half_of c.original c.gated s.plan half) t ≡ runs c half t
    runs_is t h =
        let n = length-replicate r.turn x in
        ⊎_elim
        (λ (e : t < r.turn).
        get_or_append_left (replicate r.turn x) (replicate (f - r.turn) y) blank t (omega arith)
        ∙ get_or-replicate r.turn t x blank e
        ∙ ap (on c.original c.gated) (sym (side_before r t e)))
        (λ (e : r.turn ≤ t).
        get_or-append_right (replicate r.turn x) (replicate (f - r.turn) y) r.turn t blank n e
        ∙ get_or-replicate (f - r.turn) (t - r.turn) y blank (omega arith)
        ∙ ap (on c.original c.gated) (sym (side_from r t e)))
        (cases_lt t r.turn)

    all_in_half : (P : Net → Type 0) → ((d : Side) → P (on c.original c.gated d)) → AllByRecursion P (half_of c.original c.gated s.plan half)
    all_in_half P each =
        all_row P x y (each r.front) (each (other_side r.front)) r.turn (f - r.turn)

  pub rows_placed : (bits : List ℕ)
      → Placed s.original.inputs s.original.flops s.original.outputs bits (half_of c.original c.gated s.plan Left) (half_of c.original c.gated s.plan Right)
  rows_placed bits =
      placed s.original.inputs s.original.flops s.original.outputs bits (half_of c.original c.gated s.plan Left) (half_of c.original c.gated s.plan Right)
      (all_in_half Left _ sized_on) (all_in_half Right _ sized_on) (length_half Left ∙ sym (length_half Right))
      (all_in_half Left Bounded on_bounded) (all_in_half Right Bounded on_bounded)
