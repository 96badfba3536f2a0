-- The laws of reading, together.
use Rattle.std.proofs.Common.{ℕ, List}
use Rattle.aiger.specs.Laws.{Laws}
use Rattle.aiger.proofs.Accepted.{accepts_written}
use Rattle.circuits.proofs.CycleValues.{cycles}
use Rattle.circuits.proofs.Layouts.{room_taken}
use Rattle.aiger.proofs.LineForms.{lines_exact}
use Rattle.aiger.proofs.Order.{in_order}
use Rattle.aiger.proofs.Refused.{placed}
use Rattle.aiger.proofs.ReadBack.{reads_back}

pub laws : (lent : ℕ) (t : List ℕ) → Laws lent t
laws lent t = record {
  lines_exact = lines_exact;
  reads_back = reads_back lent t;
  accepts_written = accepts_written lent t;
  in_order = in_order;
  placed = placed lent t;
  room_taken = room_taken;
  cycles = λ net e. cycles net (accepts_written lent t net e).0;
}
