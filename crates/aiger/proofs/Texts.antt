-- A written form of a circuit and what follows it, section by section.
use Rattle.std.proofs.Common.{◌≡◌, ℕ, Bool, List, ◌++◌, append_assoc}
use Rattle.std.specs.List.{range_with_len, flat_map}
use Rattle.circuits.specs.Net.{Net}
use Rattle.aiger.specs.Written.{header_text, input_text, flop_text, output_text, gate_text, text}

pub text_ends : (net : Net) (bare : ℕ → Bool) (u : List ℕ) → text net bare ++ u
    ≡ header_text net.counts ++ (flat_map input_text (range_with_len 0 net.counts.inputs) ++ (flat_map (flop_text net bare) (range_with_len 0 net.counts.flops)
    ++ (flat_map (output_text net) (range_with_len 0 net.counts.outputs) ++ (flat_map (gate_text net) (range_with_len 0 net.counts.gates) ++ u))))
text_ends net bare u = simp append_assoc
