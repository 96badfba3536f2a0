use Rattle.std.proofs.Common.{◌*◌, ◌∙◌, arith}
use Rattle.aiger.proofs.Places.{parts_front, parts_later, drop_thrice}
use Rattle.aiger.proofs.Steps.{sections_end, on_ok}
use Rattle.aiger.proofs.reading.sections.Goals as goal

pub returns-clause-front : goal.returns-clause-front
returns-clause-front c =
    sections_end c.args.sizes.counts _ _ _ _ _ _ _ _ _ _ c.read_section-4.result
    c.in_ok-read_section.ensures c.in_ok-read_section-2.ensures c.in_ok-read_section-3.ensures c.read_section-4.ensures
    (parts_front c.read_section-4.new.words c.read_section-2.new.words c.read_section-3.new.words _ _ (omega arith))

pub returns-clause-later : goal.returns-clause-later
returns-clause-later c =
    let k = c.args.sizes.counts in
    on_ok c.read_section-4.result
    (parts_later c.read_section-4.new.words c.read_section-2.new.words c.read_section-3.new.words _ _ (omega arith)
    ∙ rw (c.split_at_mut-output_words.ensures.back, c.split_at_mut-flop_words.ensures.back, c.split_at_mut-gate_words.ensures.back)
    (drop_thrice (2 * k.gates) (2 * k.flops) k.outputs c.args.words.now))
