use Rattle.std.proofs.Common.{sym, ap, ◌∙◌}
use Rattle.aiger.proofs.Sections.{each_starts}
use Rattle.aiger.proofs.section.read_section.Goals as goal

pub loop-i-init : goal.loop-i-init
loop-i-init g c =
    let s = g.S.Section in
    let k = c.count-count.result in
    each_starts (s.line_read c.args.sizes.counts) (s.line_written k) s.words_of k c.args.words.now c.args.lines.now
    (λ xs l. c.requires.writes_words k xs c.args.words.now l (c.requires.fits ∙ ap s.room_of (sym c.count-count.ensures)))
