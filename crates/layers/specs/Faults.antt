-- The refusals of layers: their numbers, and the words in which they are told.
use Rattle.std.specs.Prelude.{ℕ, List, ◌++◌, codes, decimal}
use Rattle.layers.specs.declared.fault.PadFault.{PadFault}
use Rattle.layers.specs.declared.fault.PadFault.TheVariants.{ManyDummies, ManyFlops, LargeLiteral, LargePin}
use Rattle.layers.specs.declared.fault.MatchFault.{MatchFault}
use Rattle.layers.specs.declared.fault.MatchFault.TheVariants.{WrongLength, Unmatched}

abbrev pub pad_number : PadFault → ℕ
pad_number ManyDummies = 8
pad_number ManyFlops = 8
pad_number (LargeLiteral k) = 8
pad_number (LargePin k) = 8

abbrev pub told_pad : PadFault → List ℕ
told_pad ManyDummies = codes "dummies"
told_pad ManyFlops = codes "flops"
told_pad (LargeLiteral k) = codes "literal of dummy " ++ decimal k
told_pad (LargePin k) = codes "pin of dummy " ++ decimal k

abbrev pub match_number : MatchFault → ℕ
match_number WrongLength = 9
match_number (Unmatched f) = 9

abbrev pub told_match : MatchFault → List ℕ
told_match WrongLength = codes "length"
told_match (Unmatched f) = codes "flop " ++ decimal f
