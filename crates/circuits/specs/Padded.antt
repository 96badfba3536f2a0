-- Padded circuits: dummy flops stand after a circuit's own.
use Rattle.std.specs.Prelude.{◌≡◌, ℕ, ◌+◌, ◌≤◌, Bool, cond, List, ◌++◌, map, length, nat_le}
use Rattle.std.specs.List.{AllByRecursion}
use Rattle.circuits.specs.declared.counts.Counts.{Counts}
use Rattle.circuits.specs.declared.dummy.Dummy.{Dummy}
use Rattle.circuits.specs.Net.{Net, Bounded, top, value, values, cycle_outs, cycle_nexts}
use Rattle.circuits.specs.Renumbered.{renumbered, both_renumbered}

-- where d flops are added, nets up to the flops keep their numbers and the gates' nets move up
abbrev pub moved_up : Counts → ℕ → ℕ → ℕ
moved_up c d v = cond (nat_le v (c.inputs + c.flops)) v (v + d)

-- n with a flop for each dummy; the next literals of dummies are numbered as in n, so that no literal names a dummy
abbrev pub padded : Net → List Dummy → Net
padded n ds =
    let to = moved_up n.counts (length ds) in
    record {
      counts = record {
        inputs = n.counts.inputs;
        flops = n.counts.flops + length ds;
        gates = n.counts.gates;
        outputs = n.counts.outputs;
      };
      operands = map (both_renumbered to) n.operands;
      nexts = map (renumbered to) (n.nexts ++ map (λ d. d.next) ds);
      pins = n.pins ++ map (λ d. d.pin) ds;
      outs = map (renumbered to) n.outs;
    }

-- dummies that fit a circuit of these counts
abbrev pub Fitting : Counts → List Dummy → Type 0
Fitting c ds = (c.flops + length ds ≤ 256) × AllByRecursion (λ d. (d.next ≤ top c) × (d.pin ≤ 2)) ds

-- The laws of padding. Whatever the dummies hold, the outputs and the next bits of the flops are those of the circuit below; a dummy's next
-- bit is that of its next literal there.
pub record PaddingLaws (n : Net) (ds : List Dummy) : Type 0 where
  pub bounds_kept : Bounded (padded n ds)
  pub same_outputs : (state held inputs : List Bool) → length state ≡ n.counts.flops
      → cycle_outs (padded n ds) (state ++ held) inputs ≡ cycle_outs n state inputs
  pub same_nexts : (state held inputs : List Bool) → length state ≡ n.counts.flops
      → cycle_nexts (padded n ds) (state ++ held) inputs
      ≡ cycle_nexts n state inputs ++ map (λ d. value (values n state inputs) d.next) ds
