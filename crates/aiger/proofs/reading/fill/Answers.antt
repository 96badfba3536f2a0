use Rattle.std.proofs.Common.{arith}
use Rattle.aiger.proofs.LawsOfReading.{laws}
use Rattle.aiger.proofs.Steps.{accepted_words}
use Rattle.aiger.proofs.reading.fill.Goals as goal

pub returns-in_err-sizes-clause-laws : goal.returns-in_err-sizes-clause-laws
returns-in_err-sizes-clause-laws c = laws _ _

pub returns-in_err-sections-clause-laws : goal.returns-in_err-sections-clause-laws
returns-in_err-sections-clause-laws c = laws _ _

pub returns-clause-written : goal.returns-clause-written
returns-clause-written c =
    accepted_words _ c.args.text.now _ _ _ c.args.words.now c.sections.new.words c.in_ok-sizes.sizes.counts
    c.new-lines.ensures c.in_ok-sizes.ensures.line c.in_ok-sections.ensures.front c.in_ok-sections.ensures.later
    (omega (arith, c.in_ok-sizes.ensures.fits))

pub returns-clause-laws : goal.returns-clause-laws
returns-clause-laws c = laws _ _
