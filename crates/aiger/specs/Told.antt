-- The words in which a fault is told.
use Rattle.std.specs.Prelude.{ℕ, List, ◌++◌, codes, decimal}
use Rattle.aiger.specs.declared.fault.ReadFault.{ReadFault}
use Rattle.aiger.specs.Refusals.{number}

abbrev pub told_fault : ReadFault → List ℕ
told_fault f = codes "refused " ++ (decimal (number f.refusal) ++ (codes " line " ++ decimal f.line))
