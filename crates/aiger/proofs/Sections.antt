-- The lines of one kind, read by a loop: one line on, stopped by a refusal, and at the end; and the words that they make.
use Rattle.std.proofs.Common.{◌≡◌, ℕ, zero, suc, ◌+◌, ◌-◌, ◌*◌, ◌<◌, List, [], ◌∷◌, ◌++◌, length, take, drop, set, Ok, Err, Result, sym, refl, ap, ◌∙◌, append_assoc, arith}
use Rattle.std.specs.List.{range_with_len}
use Rattle.std.proofs.lemmas.List.{nil_from_length, append-nil, take_more_set, take_all, take-set-le, drop-set-add, drop-set-lt, length-set, length-drop, take-append-drop}
use Rattle.std.proofs.lemmas.List.FromFn.{length-range_with_len}
use Rattle.aiger.specs.declared.fault.ReadFault.{ReadFault}
use Rattle.aiger.specs.declared.lines.FlopLine.{FlopLine}
use Rattle.aiger.specs.declared.lines.GateLine.{GateLine}
use Rattle.aiger.specs.Beside.{as_words}
use Rattle.circuits.specs.Net.{operand_words}
use Rattle.aiger.specs.Reading.{each, onward, pin, nexts_of, pins_of, operands_of}
use Rattle.aiger.specs.Sections.{writes, WritesWords}

-- words that are the same for as many lines as there are
as_words_same : {X : Type 0} (line : ℕ → List ℕ → Result (X × List ℕ) ReadFault) (f g : List X → List ℕ) (is t : List ℕ)
    → ((xs : List X) → length xs ≡ length is → f xs ≡ g xs) → as_words f (each line is t) ≡ as_words g (each line is t)
as_words_same line f g [] t h = ap (λ ws. Ok (ws, t)) (h [] refl)
as_words_same {X = X} line f g (i ∷ is) t h = at (line i t) (λ x. as_words_same line (λ xs. f (x ∷ xs)) (λ xs. g (x ∷ xs)) is)
  where
    rest : (k : List X → List ℕ) (x : X) (r : Result (List X × List ℕ) ReadFault)
        → as_words k (onward r (λ xs v. Ok (x ∷ xs, v))) ≡ as_words (λ xs. k (x ∷ xs)) r
    rest k x (Err e) = refl
    rest k x (Ok p) = refl

    at : (r : Result (X × List ℕ) ReadFault)
        → ((x : X) (u : List ℕ) → ((xs : List X) → length xs ≡ length is → f (x ∷ xs) ≡ g (x ∷ xs))
        → as_words (λ xs. f (x ∷ xs)) (each line is u) ≡ as_words (λ xs. g (x ∷ xs)) (each line is u))
        → as_words f (onward r (λ x u. onward (each line is u) (λ xs v. Ok (x ∷ xs, v))))
        ≡ as_words g (onward r (λ x u. onward (each line is u) (λ xs v. Ok (x ∷ xs, v))))
    at (Err e) go = refl
    at (Ok p) go =
        rest f p.0 (each line is p.1) ∙ go p.0 p.1 (λ xs l. h (p.0 ∷ xs) (ap suc l)) ∙ sym (rest g p.0 (each line is p.1))

module _ {X : Type 0} (line : ℕ → List ℕ → Result (X × List ℕ) ReadFault) (write : ℕ → X → List ℕ → List ℕ) where
  -- n lines in turn from line i on, and the words after they have been written
  abbrev pub each_written : ℕ → ℕ → List ℕ → List ℕ → Result (List ℕ × List ℕ) ReadFault
  each_written i zero ws t = Ok (ws, t)
  each_written i (suc n) ws t = onward (line i t) (λ x u. each_written (i + 1) n (write i x ws) u)

  written_after : (i n : ℕ) (ws t : List ℕ) → each_written i n ws t ≡ as_words (λ xs. writes write i xs ws) (each line (range_with_len i n) t)
  written_after i zero ws t = refl
  written_after i (suc n) ws t = at (line i t) (λ x u. written_after (i + 1) n (write i x ws) u)
    where
      rest : (x : X) (r : Result (List X × List ℕ) ReadFault)
          → as_words (λ xs. writes write (i + 1) xs (write i x ws)) r ≡ as_words (λ xs. writes write i xs ws) (onward r (λ xs v. Ok (x ∷ xs, v)))
      rest x (Err f) = refl
      rest x (Ok p) = refl

      at : (r : Result (X × List ℕ) ReadFault)
          → ((x : X) (u : List ℕ) → each_written (i + 1) n (write i x ws) u
          ≡ as_words (λ xs. writes write (i + 1) xs (write i x ws)) (each line (range_with_len (i + 1) n) u))
          → onward r (λ x u. each_written (i + 1) n (write i x ws) u)
          ≡ as_words (λ xs. writes write i xs ws) (onward r (λ x u. onward (each line (range_with_len (i + 1) n) u) (λ xs v. Ok (x ∷ xs, v))))
      at (Err f) h = refl
      at (Ok p) h = h p.0 p.1 ∙ rest p.0 (each line (range_with_len (i + 1) n) p.1)

  -- a loop begins
  pub each_starts : (words : List X → List ℕ) (n : ℕ) (ws t : List ℕ) → ((xs : List X) → length xs ≡ n → writes write 0 xs ws ≡ words xs)
      → each_written 0 (n - 0) ws t ≡ as_words words (each line (range_with_len 0 n) t)
  each_starts words n ws t h =
      let z : n - 0 ≡ n = omega arith in
      ap (λ m. each_written 0 m ws t) z ∙ written_after 0 n ws t
      ∙ as_words_same line (λ xs. writes write 0 xs ws) words (range_with_len 0 n) t (λ xs l. h xs (l ∙ length-range_with_len 0 n))

  next : (n k : ℕ) (ws t : List ℕ) → k < n
      → each_written k (n - k) ws t ≡ onward (line k t) (λ x u. each_written (k + 1) (n - (k + 1)) (write k x ws) u)
  next n k ws t h = let e : n - k ≡ suc (n - (k + 1)) = omega arith in ap (λ m. each_written k m ws t) e

  pub each_more : (n k : ℕ) (ws ws' t u : List ℕ) (x : X) → k < n → Ok (x, u) ≡ line k t → ws' ≡ write k x ws
      → each_written (k + 1) (n - (k + 1)) ws' u ≡ each_written k (n - k) ws t
  each_more n k ws ws' t u x h e p =
      ap (λ q. each_written (k + 1) (n - (k + 1)) q u) p
      ∙ ap (λ r. onward r (λ y v. each_written (k + 1) (n - (k + 1)) (write k y ws) v)) e ∙ sym (next n k ws t h)

-- The words of each kind.
inputs_from : (i : ℕ) (xs ws : List ℕ) → writes (λ _ _ ws. ws) i xs ws ≡ ws
inputs_from i [] ws = refl
inputs_from i (x ∷ xs) ws = inputs_from (i + 1) xs ws

pub inputs_words : WritesWords {X = ℕ} (λ _ _ _ words. words) (λ _. 0) (λ _. [])
inputs_words n xs ws a b = inputs_from 0 xs ws ∙ nil_from_length ws b

outputs_from : (j : ℕ) (xs ws : List ℕ) → j + length xs ≡ length ws → writes (λ j x ws. set ws j x) j xs ws ≡ take j ws ++ xs
outputs_from j [] ws e = sym (append-nil (take j ws) ∙ take_all j ws (omega arith))
outputs_from j (x ∷ xs) ws e =
    outputs_from (j + 1) xs (set ws j x) (simp length-set (omega arith))
    ∙ ap (λ ys. ys ++ xs) (take_more_set ws j x (omega arith)) ∙ append_assoc (take j ws) (x ∷ []) xs

pub outputs_words : WritesWords {X = ℕ} (λ _ j literal words. set words j literal) (λ count. count) (λ literals. literals)
outputs_words n xs ws a b = outputs_from 0 xs ws (omega arith)

pub take_pair : (xs : List ℕ) (k a b : ℕ) → 2 * k + 1 < length xs
    → take (2 * (k + 1)) (set (set xs (2 * k) a) (2 * k + 1) b) ≡ take (2 * k) xs ++ (a ∷ b ∷ [])
take_pair xs k a b h =
    let e : 2 * (k + 1) ≡ 2 * k + 1 + 1 = omega arith in
    let l : 2 * k + 1 < length (set xs (2 * k) a) = simp length-set h in
    ap (λ m. take m (set (set xs (2 * k) a) (2 * k + 1) b)) e
    ∙ take_more_set (set xs (2 * k) a) (2 * k + 1) b l
    ∙ ap (λ ys. ys ++ (b ∷ [])) (take_more_set xs (2 * k) a (omega arith))
    ∙ append_assoc (take (2 * k) xs) (a ∷ []) (b ∷ [])

gates_from : (i : ℕ) (gs : List GateLine) (ws : List ℕ) → 2 * (i + length gs) ≡ length ws
    → writes (λ i g ws. set (set ws (2 * i) g.left) (2 * i + 1) g.right) i gs ws ≡ take (2 * i) ws ++ operand_words (operands_of gs)
gates_from i [] ws e = sym (append-nil (take (2 * i) ws) ∙ take_all (2 * i) ws (omega arith))
gates_from i (g ∷ gs) ws e =
    gates_from (i + 1) gs (set (set ws (2 * i) g.left) (2 * i + 1) g.right) (simp length-set (omega arith))
    ∙ ap (λ ys. ys ++ operand_words (operands_of gs)) (take_pair ws i g.left g.right (omega arith))
    ∙ append_assoc (take (2 * i) ws) (g.left ∷ g.right ∷ []) (operand_words (operands_of gs))

pub gates_words : WritesWords {X = GateLine} (λ _ i gate words. set (set words (2 * i) gate.left) (2 * i + 1) gate.right) (λ count. 2 * count)
    (λ gates. operand_words (operands_of gates))
gates_words n xs ws a b = gates_from 0 xs ws (omega arith)

flops_from : (n j : ℕ) (fs : List FlopLine) (ws : List ℕ) → j + length fs ≡ n → length ws ≡ 2 * n
    → writes (λ j f ws. set (set ws j f.next) (n + j) (pin f.third)) j fs ws
    ≡ (take j ws ++ nexts_of fs) ++ (take j (drop n ws) ++ pins_of fs)
flops_from n j [] ws e l =
    let q : j ≡ n = omega arith in
    let d : take j (drop n ws) ≡ drop n ws = take_all j (drop n ws) (simp length-drop (omega arith)) in
    let t : take n ws ++ drop n ws ≡ ws = take-append-drop n ws in
    let a = append-nil (take j ws) in let b = append-nil (take j (drop n ws)) in
    cc
flops_from n j (f ∷ fs) ws e l =
    let p = pin f.third in
    let vs = set (set ws j f.next) (n + j) p in
    let i = flops_from n (j + 1) fs vs (omega arith) (simp length-set l) in
    let a : take (j + 1) vs ≡ take j ws ++ (f.next ∷ [])
    = take-set-le (j + 1) (set ws j f.next) (n + j) p (omega arith) ∙ take_more_set ws j f.next (omega arith) in
    let d : drop n vs ≡ set (drop n ws) j p
    = drop-set-add n (set ws j f.next) j p ∙ ap (λ xs. set xs j p) (drop-set-lt n ws j f.next (omega arith)) in
    let b : take (j + 1) (drop n vs) ≡ take j (drop n ws) ++ (p ∷ [])
    = ap (take (j + 1)) d ∙ take_more_set (drop n ws) j p (simp length-drop (omega arith)) in
    let x = append_assoc (take j ws) (f.next ∷ []) (nexts_of fs) in
    let y = append_assoc (take j (drop n ws)) (p ∷ []) (pins_of fs) in
    cc

pub flops_words : WritesWords {X = FlopLine} (λ count j flop words. set (set words j flop.next) (count + j) (pin flop.third)) (λ count. 2 * count)
    (λ flops. nexts_of flops ++ pins_of flops)
flops_words n xs ws a b = flops_from n 0 xs ws (omega arith) b

pub ruleset section_words = (inputs_words, flops_words, outputs_words, gates_words)
