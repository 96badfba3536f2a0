-- Words that are cut, against the same words read off by place.
use Rattle.std.proofs.Common.{◌≡◌, ℕ, zero, suc, ◌+◌, ◌*◌, ◌<◌, ◌≤◌, List, [], map, length, get_or, take, drop, sym, refl, ap, ◌∙◌, arith}
use Rattle.std.specs.Simd.{first_chunks}
use Rattle.std.proofs.lemmas.List.{get_or-drop, get_or-take, drop-drop, length-map}
use Rattle.std.proofs.lemmas.List.FromFn.{fill_by_all}
use Rattle.std.proofs.Math.ListN.{get_or-map}
use Rattle.circuits.specs.Held.{pairs_in, row_in}
use Rattle.circuits.proofs.HeldInWords.{row_words}

-- a pair of words
abbrev pub pair_of : List ℕ → ℕ × ℕ
pair_of pair = (get_or pair 0 0, get_or pair 1 0)

-- pair k of those that words are cut into
pair_at : (n : ℕ) (xs : List ℕ) (k : ℕ) → k < n → get_or (first_chunks 2 n xs) k [] ≡ take 2 (drop (2 * k) xs)
pair_at zero xs k h = absurd (omega arith)
pair_at (suc n) xs zero h = refl
pair_at (suc n) xs (suc k) h =
    let e : 2 * suc k ≡ 2 + 2 * k = omega arith in
    pair_at n (drop 2 xs) k (omega arith) ∙ ap (take 2) (drop-drop (2 * k) 2 xs) ∙ ap (λ m. take 2 (drop m xs)) (sym e)

as_many : (n : ℕ) (xs : List ℕ) → length (first_chunks 2 n xs) ≡ n
as_many zero xs = refl
as_many (suc n) xs = ap suc (as_many n (drop 2 xs))

-- the pairs at the front
pub pairs_cut : (words : List ℕ) (count : ℕ) → map pair_of (first_chunks 2 count (take (2 * count) words)) ≡ pairs_in count words
pairs_cut words count =
    let front : List ℕ = take (2 * count) words in
    let pairs : List (List ℕ) = first_chunks 2 count front in
    fill_by_all (λ k. (get_or words (2 * k) 0, get_or words (2 * k + 1) 0)) (map pair_of pairs) count (0, 0)
    (length-map pairs pair_of ∙ as_many count front) (λ k h.
    let at : (i : ℕ) → i < 2 → get_or words (2 * k + i) 0 ≡ get_or (take 2 (drop (2 * k) front)) i 0 =
    λ i l. sym (get_or-take 2 (drop (2 * k) front) i 0 l ∙ get_or-drop (2 * k) front i 0 ∙ get_or-take (2 * count) words (2 * k + i) 0 (omega arith)) in
    let z : get_or words (2 * k) 0 ≡ get_or (take 2 (drop (2 * k) front)) 0 0 = ap (λ m. get_or words m 0) (omega arith) ∙ at 0 (omega arith) in
    let o = at 1 (omega arith) in
    sym (ap (λ x. (x, get_or words (2 * k + 1) 0)) z ∙ ap (λ y. (get_or (take 2 (drop (2 * k) front)) 0 0, y)) o
    ∙ ap pair_of (sym (pair_at count front k h)) ∙ sym (get_or-map pair_of pairs k [])))

-- what is left after a cut, and a row that is cut off
pub left_after : (words rest later : List ℕ) (from count : ℕ) → rest ≡ drop from words → later ≡ drop count rest → later ≡ drop (from + count) words
left_after words rest later from count r l = l ∙ ap (drop count) r ∙ drop-drop count from words

pub row_cut : (words rest row : List ℕ) (from count : ℕ) → rest ≡ drop from words → row ≡ take count rest → from + count ≤ length words
    → row ≡ row_in from count words
row_cut words rest row from count r t h = t ∙ ap (take count) r ∙ sym (row_words words from count h)
