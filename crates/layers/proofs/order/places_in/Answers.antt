use Rattle.std.proofs.Common.{ℕ, arith}
use Rattle.std.proofs.lemmas.List.{get_or-replicate}
use Rattle.layers.proofs.order.places_in.Goals as goal

pub loop-j-init : goal.loop-j-init
loop-j-init c = record {
  long = omega arith;
  inside = λ f h. omega (arith, get_or-replicate {A = ℕ} 256 f 0 0 h);
  stands = λ k h _. absurd (omega arith);
}
