-- The differences, by their numbers.
use Rattle.std.proofs.Common.{◌≡◌, ℕ, ◌+◌, ◌/◌, ◌%◌, ◌<◌, subst, ◌∙◌, arith}
use Rattle.std.proofs.lemmas.Nat.{div-add-mod', div-mul-add, mod-mul-add, row_fits}
use Rattle.std.proofs.lemmas.Bool.Decides.{nat_tests}
use Rattle.clauses.specs.declared.shape.Shape.{Shape}
use Rattle.clauses.specs.declared.shape.Spot.{Spot}
use Rattle.clauses.specs.declared.shape.Difference.{Difference}
use Rattle.clauses.specs.declared.shape.Difference.TheVariants.{Output, Final}
use Rattle.clauses.specs.Shapes.{IsDifferenceOf, OnlyOfNumber, all_outputs, difference_at, difference_number}

only_at : (s : Shape) (e : ℕ) (other : Difference) → IsDifferenceOf s other → difference_number s other ≡ e → other ≡ difference_at s e
only_at s e (Output spot) is n =
    let outs = s.original.outputs in
    let low : e < all_outputs s = omega (arith, row_fits spot.cycle outs s.plan.cycles outs is.0 (omega arith)) in
    let cycle : e / outs ≡ spot.cycle = subst (λ m. m / outs ≡ spot.cycle) n (div-mul-add spot.cycle outs spot.at is.1) in
    let at : e % outs ≡ spot.at = subst (λ m. m % outs ≡ spot.at) n (mod-mul-add spot.cycle outs spot.at is.1) in
    grind (arith, nat_tests)
only_at s e (Final flop) is n = grind (arith, nat_tests)

-- so an output's number is its own, and so is a final bit's
module _ (s : Shape) (e : ℕ) where
  pub only_output : (spot : Spot) → spot ≡ record { cycle = e / s.original.outputs; at = e % s.original.outputs } → e < all_outputs s → OnlyOfNumber s e (Output spot)
  only_output spot is low = rw is (record {
    number = div-add-mod' e s.original.outputs;
    only = λ other is k. only_at s e other is k ∙ grind (arith, nat_tests);
  })

  pub only_final : (flop : ℕ) → all_outputs s + flop ≡ e → OnlyOfNumber s e (Final flop)
  only_final flop n = record { number = n; only = λ other is k. only_at s e other is k ∙ grind (arith, nat_tests) }
