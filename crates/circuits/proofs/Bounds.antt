-- What the test of the counts says.
use Rattle.std.proofs.Common.{◌≡◌, true, arith}
use Rattle.std.proofs.lemmas.Bool.Decides.{nat_tests}
use Rattle.circuits.specs.declared.counts.Counts.{Counts}
use Rattle.circuits.specs.Net.{BoundedCounts, in_bounds}

pub in_bounds_from : (c : Counts) → BoundedCounts c → in_bounds c ≡ true
in_bounds_from c b = grind (arith, nat_tests)

pub in_bounds_parts : (c : Counts) → in_bounds c ≡ true → BoundedCounts c
in_bounds_parts c e = record {
  few_inputs = grind (arith, nat_tests);
  few_flops = grind (arith, nat_tests);
  few_gates = grind (arith, nat_tests);
  some_output = grind (arith, nat_tests);
  few_outputs = grind (arith, nat_tests);
}
