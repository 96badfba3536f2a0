use Rattle.std.proofs.Common.{◌≡◌, ◌-◌}
use Rattle.std.specs.List.{range_with_len}
use Rattle.aiger.specs.Beside.{as_words}
use Rattle.aiger.specs.Reading.{each}
use Rattle.aiger.proofs.Sections.{each_written}
use Rattle.aiger.proofs.section.read_section.Given as goal

abbrev pub invariant-loop-i : goal.invariant-loop-i
invariant-loop-i g l =
    let s = g.S.Section in
    each_written (s.line_read l.sizes.counts) (s.line_written l.count) l.i (l.count - l.i) l.words l.lines
    ≡ as_words s.words_of (each (s.line_read l.sizes.counts) (range_with_len 0 l.count) l.initial.lines)
