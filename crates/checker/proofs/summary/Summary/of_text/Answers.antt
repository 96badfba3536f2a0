use Rattle.std.proofs.Common.{length, Ok, ap, ◌∙◌}
use Rattle.checker.proofs.Summed.{read_summed}
use Rattle.checker.proofs.summary.Summary.of_text.Goals as goal

pub returns : goal.returns
returns c =
    let r = c.in_ok-counts.ensures in
    record {
      answer = ap (λ s. Ok s) c.of.ensures ∙ read_summed (length c.args.words.now) c.args.text.now c.args.words.now c.read.new.words
          c.in_ok-counts.counts _ r.written c.new-plain.ensures r.answer;
      written = r.written;
    }
