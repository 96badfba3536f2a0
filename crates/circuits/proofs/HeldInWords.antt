-- Words hold the circuit that is read off by place, where it is bounded, and no other.
use Rattle.std.proofs.Common.{◌≡◌, ℕ, zero, suc, ◌+◌, ◌*◌, ◌<◌, ◌≤◌, List, [], ◌∷◌, ◌++◌, map, length, get_or, take, drop, sym, refl, ap, ◌∙◌, subst, arith}
use Rattle.std.proofs.Props.{props}
use Rattle.std.specs.List.{range_with_len}
use Rattle.std.proofs.lemmas.List.FromFn.{fill_by_all}
use Rattle.std.proofs.lemmas.List.{append_assoc, get_or-append-add, get_or_append_left, get_or-drop, get_or-take, length-append, length-drop, length-take, drop-drop, drop_more, drop-take, take-append-drop, take-take}
use Rattle.circuits.specs.declared.counts.Counts.{Counts}
use Rattle.circuits.specs.Net.{Net, Bounded, layout, operand_words, room}
use Rattle.circuits.specs.Held.{Holds, net_in, pairs_in, row_in}
use Rattle.circuits.proofs.Layouts.{two_each, room_taken}
use Rattle.circuits.proofs.Nets.{same_net}

-- that a circuit is bounded is one fact, so a struct can keep it
pub bounded_once : (n : Net) → IsProp (Bounded n)
bounded_once n = Prim.hlevel props

-- the operands of gate i stand in words 2i and 2i + 1
pair_words : (gs : List (ℕ × ℕ)) (later : List ℕ) (i : ℕ) → i < length gs
    → (get_or (operand_words gs ++ later) (2 * i) 0, get_or (operand_words gs ++ later) (2 * i + 1) 0) ≡ get_or gs i (0, 0)
pair_words [] later i h = absurd (omega arith)
pair_words (g ∷ gs) later zero h = refl
pair_words (g ∷ gs) later (suc i) h =
    let ws : List ℕ = operand_words (g ∷ gs) ++ later in
    let e : 2 * suc i ≡ suc (suc (2 * i)) = omega arith in
    let d : 2 * suc i + 1 ≡ suc (suc (2 * i + 1)) = omega arith in
    ap (λ k. (get_or ws k 0, get_or ws (2 * suc i + 1) 0)) e ∙ ap (λ k. (get_or ws (suc (suc (2 * i))) 0, get_or ws k 0)) d
    ∙ pair_words gs later i (omega arith)

-- a row between two parts is read off by its place
row_between : (front row back : List ℕ) (from count : ℕ) → length front ≡ from → length row ≡ count → row_in from count (front ++ (row ++ back)) ≡ row
row_between front row back from count e d =
    sym (fill_by_all (λ k. get_or (front ++ (row ++ back)) (from + k) 0) row count 0 d (λ k l.
    sym (ap (λ m. get_or (front ++ (row ++ back)) (m + k) 0) (sym e) ∙ get_or-append-add front (row ++ back) k 0
    ∙ get_or_append_left row back 0 k (omega arith))))

-- the circuit is read off from its layout
net_in_layout : (n : Net) (later : List ℕ) → Bounded n → net_in n.counts (layout n ++ later) ≡ n
net_in_layout n later b =
    let c = n.counts in
    let ops : List ℕ = operand_words n.operands in
    let two = two_each n.operands in
    let lo = b.operands_are in let ln = b.nexts_are in let lp = b.pins_are in
    let ws : List ℕ = layout n ++ later in
    let e₀ : ws ≡ ops ++ ((n.nexts ++ (n.pins ++ n.outs)) ++ later) = append_assoc ops _ later in
    let e₁ : ws ≡ ops ++ (n.nexts ++ ((n.pins ++ n.outs) ++ later)) = e₀ ∙ ap (λ r. ops ++ r) (append_assoc n.nexts _ later) in
    let e₂ : ws ≡ (ops ++ n.nexts) ++ (n.pins ++ (n.outs ++ later)) =
    e₁ ∙ ap (λ r. ops ++ (n.nexts ++ r)) (append_assoc n.pins n.outs later) ∙ sym (append_assoc ops n.nexts _) in
    let e₃ : ws ≡ ((ops ++ n.nexts) ++ n.pins) ++ (n.outs ++ later) = e₂ ∙ sym (append_assoc (ops ++ n.nexts) n.pins _) in
    let l₂ = length-append ops n.nexts in let l₃ = length-append (ops ++ n.nexts) n.pins in
    let gates : pairs_in c.gates ws ≡ n.operands =
    sym (fill_by_all (λ k. (get_or ws (2 * k) 0, get_or ws (2 * k + 1) 0)) n.operands c.gates (0, 0) lo (λ k l.
    sym (ap (λ (w : List ℕ). (get_or w (2 * k) 0, get_or w (2 * k + 1) 0)) e₀ ∙ pair_words n.operands _ k (omega arith)))) in
    let nexts : row_in (2 * c.gates) c.flops ws ≡ n.nexts =
    ap (row_in (2 * c.gates) c.flops) e₁ ∙ row_between ops n.nexts _ (2 * c.gates) c.flops (omega arith) ln in
    let pins : row_in (2 * c.gates + c.flops) c.flops ws ≡ n.pins =
    ap (row_in (2 * c.gates + c.flops) c.flops) e₂
    ∙ row_between (ops ++ n.nexts) n.pins _ (2 * c.gates + c.flops) c.flops (omega arith) lp in
    let outs : row_in (2 * c.gates + 2 * c.flops) c.outputs ws ≡ n.outs =
    ap (row_in (2 * c.gates + 2 * c.flops) c.outputs) e₃
    ∙ row_between ((ops ++ n.nexts) ++ n.pins) n.outs later (2 * c.gates + 2 * c.flops) c.outputs (omega arith) b.outs_are in
    same_net (net_in c ws) n refl gates nexts pins outs

-- the words of a row and of pairs are a part of all
pub row_words : (words : List ℕ) (from count : ℕ) → from + count ≤ length words → row_in from count words ≡ take count (drop from words)
row_words words from count h =
    let l = length-take count (drop from words) in let l' = length-drop from words in
    sym (fill_by_all (λ k. get_or words (from + k) 0) (take count (drop from words)) count 0 (omega arith) (λ k i.
    get_or-take count (drop from words) k 0 i ∙ get_or-drop from words k 0))

pair_part : (words : List ℕ) (a n : ℕ) → 2 * (a + n) ≤ length words
    → operand_words (map (λ k. (get_or words (2 * k) 0, get_or words (2 * k + 1) 0)) (range_with_len a n)) ≡ take (2 * n) (drop (2 * a) words)
pair_part words a zero h = refl
pair_part words a (suc n) h =
    let x : ℕ = get_or words (2 * a) 0 in let y : ℕ = get_or words (2 * a + 1) 0 in
    let t : 2 * suc n ≡ suc (suc (2 * n)) = omega arith in
    let d : drop (2 * a) words ≡ x ∷ (y ∷ drop (2 * a + 1 + 1) words) =
    drop_more words (2 * a) 0 (omega arith) ∙ ap (λ r. x ∷ r) (drop_more words (2 * a + 1) 0 (omega arith)) in
    let s : 2 * (a + 1) ≡ 2 * a + 1 + 1 = omega arith in
    ap (λ r. x ∷ (y ∷ r)) (pair_part words (a + 1) n (omega arith) ∙ ap (λ m. take (2 * n) (drop m words)) s)
    ∙ sym (ap (λ m. take m (drop (2 * a) words)) t ∙ ap (take (suc (suc (2 * n)))) d)

take_split : (a b : ℕ) (words : List ℕ) → take (a + b) words ≡ take a words ++ take b (drop a words)
take_split a b words =
    sym (take-append-drop a (take (a + b) words))
    ∙ ap (λ r. r ++ drop a (take (a + b) words)) (take-take a (a + b) words (omega arith))
    ∙ ap (λ r. take a words ++ r) (drop-take a b words)

laid_front : (c : Counts) (words : List ℕ) → room c ≤ length words → take (room c) words ≡ layout (net_in c words)
laid_front c words h =
    let g : ℕ = 2 * c.gates in let l = c.flops in let o = c.outputs in
    let r : room c ≡ g + (l + (l + o)) = omega arith in
    let e : g + 2 * l ≡ g + l + l = omega arith in
    ap (λ m. take m words) r
    ∙ take_split g (l + (l + o)) words
    ∙ ap (λ r. take g words ++ r) (take_split l (l + o) (drop g words)
    ∙ ap (λ r. take l (drop g words) ++ r) (ap (take (l + o)) (drop-drop l g words) ∙ take_split l o (drop (g + l) words)
    ∙ ap (λ r. take l (drop (g + l) words) ++ take o r) (drop-drop l (g + l) words ∙ ap (λ m. drop m words) (sym e))))
    ∙ sym (
    ap (λ r. r ++ (row_in g l words ++ (row_in (g + l) l words ++ row_in (g + 2 * l) o words))) (pair_part words 0 c.gates (omega arith))
    ∙ ap (λ r. take g words ++ (r ++ (row_in (g + l) l words ++ row_in (g + 2 * l) o words))) (row_words words g l (omega arith))
    ∙ ap (λ r. take g words ++ (take l (drop g words) ++ (r ++ row_in (g + 2 * l) o words))) (row_words words (g + l) l (omega arith))
    ∙ ap (λ r. take g words ++ (take l (drop g words) ++ (take l (drop (g + l) words) ++ r))) (row_words words (g + 2 * l) o (omega arith))
    )

module _ (c : Counts) (words : List ℕ) where
  pub holds_only : (n : Net) → Holds c words n → net_in c words ≡ n
  holds_only n h =
      let laid : words ≡ layout n ++ drop (room c) words = sym (take-append-drop (room c) words) ∙ ap (λ w. w ++ drop (room c) words) h.laid in
      ap (λ d. net_in d words) (sym h.counted) ∙ ap (net_in n.counts) laid ∙ net_in_layout n (drop (room c) words) h.bounded

  pub holds_bounded : (n : Net) → Holds c words n → (room c ≤ length words) × Bounded (net_in c words)
  holds_bounded n h =
      let t : room n.counts ≡ room c = ap room h.counted in
      let l = room_taken n h.bounded in let e = ap length h.laid in let k = length-take (room c) words in
      (omega arith, subst Bounded (sym (holds_only n h)) h.bounded)

  pub bounded_holds : room c ≤ length words → Bounded (net_in c words) → Holds c words (net_in c words)
  bounded_holds h b = record { bounded = b; counted = refl; laid = laid_front c words h }
