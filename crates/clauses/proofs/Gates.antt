-- The gates of a row, counted by cycle.
use Rattle.std.proofs.Common.{◌≡◌, ℕ, zero, suc, ◌+◌, ◌-◌, ◌*◌, ◌/◌, ◌%◌, ◌<◌, ◌≤◌, min, ltb, sym, ap, ◌∙◌, subst, mul-zero, arith}
use Rattle.std.proofs.lemmas.Nat.{div-add-mod', div_below, mod_below}
use Rattle.std.proofs.lemmas.Bool.{cond-true, cond-false, lt-ltb, le-ltb}
use Rattle.clauses.specs.declared.plan.Half.{Half}
use Rattle.clauses.specs.declared.plan.Half.TheVariants.{Left, Right}
use Rattle.clauses.specs.declared.plan.Row.{Row}
use Rattle.clauses.specs.declared.shape.Shape.{Shape}
use Rattle.clauses.specs.declared.shape.Spot.{Spot}
use Rattle.circuits.specs.Sides.{other_side}
use Rattle.clauses.specs.Plans.{half_row, side_at}
use Rattle.clauses.specs.Shapes.{gates_on, gates_in_row, Spots}

-- below a product, the factor is not zero
pub factor : (g m k : ℕ) → g < m * k → 0 < k
factor g m zero l = absurd (omega (arith, mul-zero m))
factor g m (suc k) l = omega arith

-- the circuit of a row before its turn, and from its turn on
pub side_before : (r : Row) (t : ℕ) → t < r.turn → side_at r t ≡ r.front
side_before r t l = cond-true (ltb t r.turn) r.front (other_side r.front) (lt-ltb t r.turn l)

pub side_from : (r : Row) (t : ℕ) → r.turn ≤ t → side_at r t ≡ other_side r.front
side_from r t l = cond-false (ltb t r.turn) r.front (other_side r.front) (le-ltb t r.turn l)

pub turns : (s : Shape) (half : Half) → (half_row s.plan half).turn ≤ s.plan.cycles
turns s Left = s.in_time.left_turns
turns s Right = s.in_time.right_turns

-- so many gates, where there are `front` in each cycle before the turn, and `back` in each from then on
module _ (front back turn t : ℕ) where
  pub before_turn : t ≤ turn → min t turn * front + (t - turn) * back ≡ t * front
  before_turn l =
      let e : min t turn ≡ t = omega arith in
      let z : t - turn ≡ 0 = omega arith in
      rw (e, z) (omega arith)

  pub from_turn : turn ≤ t → min t turn * front + (t - turn) * back ≡ turn * front + (t - turn) * back
  from_turn l = let e : min t turn ≡ turn = omega arith in rw e

module _ (s : Shape) (half : Half) where
  abbrev r : Row
  r = half_row s.plan half

  abbrev front : ℕ
  front = gates_on s r.front

  abbrev back : ℕ
  back = gates_on s (other_side r.front)

  -- gate g stands in a cycle before the turn, or after it
  front_spot : (g : ℕ) → g < r.turn * front → Spots s half g (record { cycle = g / front; at = g % front })
  front_spot g b =
      let some = factor g r.turn front b in
      let early : g / front < r.turn = div_below g front r.turn some b in
      let turned = turns s half in
      record {
        in_row = omega arith;
        in_cycle = subst (λ m. g % front < m) (ap (gates_on s) (sym (side_before r (g / front) early))) (mod_below g front some);
        is = ap (λ m. m + g % front) (before_turn front back r.turn (g / front) (omega arith)) ∙ div-add-mod' g front;
      }

  back_spot : (g : ℕ) → r.turn * front ≤ g → g < gates_in_row s half
      → Spots s half g (record { cycle = r.turn + (g - r.turn * front) / back; at = (g - r.turn * front) % back })
  back_spot g b h =
      let rest = g - r.turn * front in
      let turned = turns s half in
      let whole = from_turn front back r.turn s.plan.cycles turned in
      let low : rest < (s.plan.cycles - r.turn) * back = omega arith in
      let some = factor rest (s.plan.cycles - r.turn) back low in
      let early : rest / back < s.plan.cycles - r.turn = div_below rest back (s.plan.cycles - r.turn) some low in
      let t = r.turn + rest / back in
      let d : t - r.turn ≡ rest / back = omega arith in
      let e : (t - r.turn) * back ≡ rest / back * back = ap (λ m. m * back) d in
      let parts = div-add-mod' rest back in
      record {
        in_row = omega arith;
        in_cycle = subst (λ m. rest % back < m) (ap (gates_on s) (sym (side_from r t (omega arith)))) (mod_below rest back some);
        is = ap (λ m. m + rest % back) (from_turn front back r.turn t (omega arith)) ∙ omega arith;
      }

  -- where there are so many gates in each cycle
  pub spot_front : (fronts g : ℕ) (spot : Spot) → fronts ≡ front → spot ≡ record { cycle = g / fronts; at = g % fronts } → g < r.turn * fronts → Spots s half g spot
  spot_front fronts g spot f is b = rw (is, f) (front_spot g (rw f at b))

  pub spot_back : (fronts backs g : ℕ) (rest : Spot) → fronts ≡ front → backs ≡ back
      → rest ≡ record { cycle = (g - r.turn * fronts) / backs; at = (g - r.turn * fronts) % backs }
      → r.turn * fronts ≤ g → g < gates_in_row s half → Spots s half g (record { cycle = r.turn + rest.cycle; at = rest.at })
  spot_back fronts backs g rest f k is b h = rw (is, f, k) (back_spot g (rw f at b) h)
