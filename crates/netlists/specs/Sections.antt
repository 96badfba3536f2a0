-- What sections of words stand for.
use Rattle.std.specs.Prelude.{map, slice_index}
use Rattle.circuits.specs.Net.{Net}
use Rattle.netlists.specs.declared.sections.Sections.{Sections}

-- the circuit in them
abbrev pub net_of : Sections → Net
net_of s = record {
  counts = s.counts;
  operands = map (λ pair. (slice_index pair 0, slice_index pair 1)) s.operands.now;
  nexts = s.nexts.now;
  pins = s.pins.now;
  outs = s.outs.now;
}
