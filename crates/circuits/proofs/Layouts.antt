-- How many words a circuit takes.
use Rattle.std.proofs.Common.{◌≡◌, ℕ, ◌*◌, List, [], ◌∷◌, length, refl, arith}
use Rattle.std.proofs.lemmas.List.{length-append}
use Rattle.circuits.specs.Net.{Net, Bounded, operand_words, layout, room}

pub two_each : (gs : List (ℕ × ℕ)) → length (operand_words gs) ≡ 2 * length gs
two_each [] = refl
two_each (g ∷ gs) = let e = two_each gs in omega arith

pub room_taken : (net : Net) → Bounded net → length (layout net) ≡ room net.counts
room_taken net b =
    let g = two_each net.operands in
    let lg = b.operands_are in
    let ln = b.nexts_are in
    let lp = b.pins_are in
    let lo = b.outs_are in
    simp length-append (omega arith)
