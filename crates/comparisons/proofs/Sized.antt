-- Circuits of given sizes.
use Rattle.std.proofs.Common.{◌≡◌, ℕ, length}
use Rattle.circuits.specs.Net.{Net}

-- a circuit with so many inputs, flops and outputs
pub record Sized (inputs flops outs : ℕ) (net : Net) : Type 0 where
  pub inputs_are : net.counts.inputs ≡ inputs
  pub flops_are : net.counts.flops ≡ flops
  pub nexts_are : length net.nexts ≡ flops
  pub outs_are : length net.outs ≡ outs
