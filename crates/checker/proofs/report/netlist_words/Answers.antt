use Rattle.std.proofs.Common.{rules}
use Rattle.checker.proofs.Words.{words_suffice}
use Rattle.checker.proofs.report.netlist_words.Goals as goal

pub returns : goal.returns
returns c = record { len = search rules; enough = words_suffice }
