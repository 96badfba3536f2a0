-- The numbers by which users know why circuits cannot be compared, and the words in which they are told.
use Rattle.std.specs.Prelude.{ℕ, List, codes}
use Rattle.comparisons.specs.declared.fault.OpenFault.{OpenFault}
use Rattle.comparisons.specs.declared.fault.OpenFault.TheVariants.{SizesDiffer, OutsideTable, PinsDiffer, ManyVariables}

abbrev pub open_number : OpenFault → ℕ
open_number SizesDiffer = 10
open_number OutsideTable = 11
open_number PinsDiffer = 12
open_number ManyVariables = 13

-- what does not fit
abbrev pub told_fault : OpenFault → List ℕ
told_fault SizesDiffer = codes "sizes"
told_fault OutsideTable = codes "rule or depths"
told_fault PinsDiffer = codes "pins"
told_fault ManyVariables = codes "variables"
