use Rattle.std.proofs.Common.{◌≡◌, ◌+◌, ◌*◌, ◌/◌, drop, map, length, ap, ◌∙◌, refl, arith}
use Rattle.std.specs.Simd.{first_chunks}
use Rattle.circuits.proofs.Nets.{same_net}
use Rattle.netlists.proofs.Cuts.{pair_of, pairs_cut, left_after, row_cut}
use Rattle.netlists.proofs.Plains.{some_long, some_bounded, bounded_held}
use Rattle.netlists.proofs.sections.Sections.cut.Goals as goal

pub returns-clause-by_place : goal.returns-clause-by_place
returns-clause-by_place c =
    let k = c.args.counts in let words = c.args.words.now in
    let g = 2 * k.gates in
    let front = c.split_at.result.0.now in
    let half : length front / 2 ≡ k.gates = omega arith in
    let pairs = c.as_chunks.ensures.front ∙ ap (λ n. first_chunks 2 n front) half ∙ ap (first_chunks 2 k.gates) c.split_at.ensures.front in
    let one = c.split_at.ensures.back in
    let two = left_after words _ _ g k.flops one c.split_at-2.ensures.back in
    let three : c.split_at-3.result.1.now ≡ drop (g + 2 * k.flops) words =
    left_after words _ _ (g + k.flops) k.flops two c.split_at-3.ensures.back ∙ ap (λ m. drop m words) (omega arith) in
    same_net _ _ refl
    (ap (map pair_of) pairs ∙ pairs_cut words k.gates)
    (row_cut words _ _ g k.flops one c.split_at-2.ensures.front (omega arith))
    (row_cut words _ _ (g + k.flops) k.flops two c.split_at-3.ensures.front (omega arith))
    (row_cut words _ _ (g + 2 * k.flops) k.outputs three c.split_at-4.ensures.front (omega arith))

pub returns-clause-held : goal.returns-clause-held
returns-clause-held c = bounded_held c.args.counts c.args.words.now _ (returns-clause-by_place c) (omega arith)

pub returns-clause-bounded : goal.returns-clause-bounded
returns-clause-bounded c = some_bounded c.args.counts c.args.words.now _ (returns-clause-by_place c)

pub returns-then-room-words-clause-too_few : goal.returns-then-room-words-clause-too_few
returns-then-room-words-clause-too_few c = λ h. let long = some_long c.args.counts c.args.words.now h in absurd (omega arith)
