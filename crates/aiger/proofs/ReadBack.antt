-- Each written form of a bounded circuit is read as that circuit.
use Rattle.std.proofs.Common.{◌≡◌, ℕ, zero, suc, ◌+◌, ◌^◌, ◌<◌, ◌≤◌, Bool, true, false, List, [], ◌∷◌, ◌++◌, map, Ok, Result, sym, refl, ap, ◌∙◌, append_assoc, arith}
use Rattle.std.proofs.lemmas.List.FromFn.{fill_by_all}
use Rattle.std.proofs.lemmas.Simd.{map-map}
use Rattle.std.proofs.ByRecursion.{All-get_or}
use Rattle.std.proofs.lemmas.Bool.{eq-eqb, lt-leb, le-ltb}
use Rattle.std.specs.List.{range_with_len, flat_map, AllByRecursion}
use Rattle.std.specs.Option.{option_to_list}
use Rattle.aiger.specs.declared.fault.ReadFault.{ReadFault}
use Rattle.aiger.specs.declared.lines.Header.{Header}
use Rattle.aiger.specs.declared.lines.FlopLine.{FlopLine}
use Rattle.aiger.specs.declared.lines.GateLine.{GateLine}
use Rattle.circuits.specs.Net.{Net, Bounded, last_net, top, input_literal, flop_literal, gate_literal, gate_at, next_at, pin_at, out_at, room}
use Rattle.circuits.proofs.Nets.{same_net}
use Rattle.circuits.proofs.NetsBefore.{first_whole}
use Rattle.aiger.specs.Reading.{each, onward, input_line, flop_line, output_line, gate_line, header_line, net_of, sections, pin}
use Rattle.aiger.specs.Written.{line, header_text, input_text, flop_text, output_text, gate_text}
use Rattle.aiger.specs.Laws.{ReadsBack}
use Rattle.aiger.proofs.Checks.{passed, counts_fit_from, third_of, third_is, third_fits, third_pin}
use Rattle.aiger.proofs.LineForms.{lines_exact}
use Rattle.aiger.specs.Beside.{as_words}
use Rattle.aiger.proofs.Texts.{text_ends}
use Rattle.aiger.proofs.Steps.{sections_read, reading_from}

-- lines of one kind, each of which is read as its item
each_written : {X : Type 0} (line : ℕ → List ℕ → Result (X × List ℕ) ReadFault) (write : ℕ → List ℕ) (item : ℕ → X) (a n : ℕ)
    → ((i : ℕ) → a ≤ i → i < a + n → (u : List ℕ) → line i (write i ++ u) ≡ Ok (item i, u))
    → (t : List ℕ) → each line (range_with_len a n) (flat_map write (range_with_len a n) ++ t) ≡ Ok (map item (range_with_len a n), t)
each_written line write item a zero h t = refl
each_written {X = X} line write item a (suc n) h t =
    let tail : List ℕ = flat_map write (range_with_len (a + 1) n) ++ t in
    let go : List ℕ → Result (X × List ℕ) ReadFault = line a in
    ap (λ (u : List ℕ). each line (a ∷ range_with_len (a + 1) n) u) (append_assoc (write a) (flat_map write (range_with_len (a + 1) n)) t)
    ∙ ap (λ q. onward q (λ x u. onward (each line (range_with_len (a + 1) n) u) (λ xs v. Ok (x ∷ xs, v)))) (h a (omega arith) (omega arith) tail)
    ∙ ap (λ q. onward q (λ xs v. Ok (item a ∷ xs, v)))
    (each_written line write item (a + 1) n (λ i l k u. h i (omega arith) (omega arith) u) t)

input_back : (i : ℕ) → i < 256 → (t : List ℕ) → input_line i (input_text i ++ t) ≡ Ok (input_literal i, t)
input_back i h t =
    let e = eq-eqb (input_literal i) (input_literal i) refl in
    passed _ _ _ _ (input_literal i) t ((lines_exact.singles (input_text i ++ t) t (input_literal i)).1 (refl, (omega arith, tt))) (rw e refl)

output_back : (net : Net) → Bounded net → (j : ℕ) → j < net.counts.outputs → (t : List ℕ)
    → output_line net.counts j (output_text net j ++ t) ≡ Ok (out_at net j, t)
output_back net b j h t =
    let k = b.counts_in in
    let l : out_at net j ≤ top net.counts = All-get_or (λ x. x ≤ top net.counts) net.outs j 0 (omega (arith, b.outs_are)) b.outs_in in
    let e = le-ltb (top net.counts) (out_at net j) l in
    passed _ _ _ _ (out_at net j) t ((lines_exact.singles (output_text net j ++ t) t (out_at net j)).1 (refl, (omega arith, tt))) (rw e refl)

abbrev gate_item : Net → ℕ → GateLine
gate_item net i = record { own = gate_literal net.counts i; left = (gate_at net i).0; right = (gate_at net i).1 }

gate_back : (net : Net) → Bounded net → (i : ℕ) → i < net.counts.gates → (t : List ℕ)
    → gate_line net.counts i (gate_text net i ++ t) ≡ Ok (gate_item net i, t)
gate_back net b i h t =
    let k = b.counts_in in
    let own = gate_literal net.counts i in
    let l = (b.operands_in i h).0 in let r = (b.operands_in i h).1 in
    let e = eq-eqb own own refl in let p = lt-leb own (gate_at net i).0 l in let q = lt-leb own (gate_at net i).1 r in
    passed _ _ _ _ (gate_item net i) t
    ((lines_exact.gates (gate_text net i ++ t) t (gate_item net i)).1 (refl, (omega arith, (omega arith, (omega arith, tt)))))
    (rw (e, p, q) refl)

abbrev flop_item : Net → (ℕ → Bool) → ℕ → FlopLine
flop_item net bare j = record
    { own = flop_literal net.counts j; next = next_at net j; third = third_of (bare j) (flop_literal net.counts j) (pin_at net j) }

thirds_small : (bare : Bool) (own p : ℕ) → own < 2 ^ 32 → AllByRecursion (λ m. m < 2 ^ 32) (option_to_list (third_of bare own p))
thirds_small true own zero h = tt
thirds_small false own zero h = (omega arith, tt)
thirds_small bare own (suc zero) h = (omega arith, tt)
thirds_small bare own (suc (suc p)) h = (h, tt)

flop_back : (net : Net) (bare : ℕ → Bool) → Bounded net → (j : ℕ) → j < net.counts.flops → (t : List ℕ)
    → flop_line net.counts j (flop_text net bare j ++ t) ≡ Ok (flop_item net bare j, t)
flop_back net bare b j h t =
    let k = b.counts_in in
    let own = flop_literal net.counts j in
    let x : next_at net j ≤ top net.counts = All-get_or (λ y. y ≤ top net.counts) net.nexts j 0 (omega (arith, b.nexts_are)) b.nexts_in in
    let e = eq-eqb own own refl in let n = le-ltb (top net.counts) (next_at net j) x in let f = third_fits (bare j) own (pin_at net j) in
    passed _ _ _ _ (flop_item net bare j) t
    ((lines_exact.flops (flop_text net bare j ++ t) t (flop_item net bare j)).1 (
      ap (λ (ns : List ℕ). line own (next_at net j ∷ ns) ++ t) (sym (third_is (bare j) own (pin_at net j))),
      (omega arith, (omega arith, thirds_small (bare j) own (pin_at net j) (omega arith))),
    ))
    (rw (e, n, f) refl)

header_back : (net : Net) → Bounded net → (lent : ℕ) → room net.counts ≤ lent → (t : List ℕ)
    → header_line lent (header_text net.counts ++ t) ≡ Ok (record { last = last_net net.counts; counts = net.counts }, t)
header_back net b lent l t =
    let c = net.counts in
    let h : Header = record { last = last_net c; counts = c } in
    let k = b.counts_in in
    let f = counts_fit_from h k refl in let e = le-ltb lent (room c) l in
    passed 1 _ _ _ h t
    ((lines_exact.headers (header_text c ++ t) t h).1 (
      line (last_net c) (c.inputs ∷ c.flops ∷ c.outputs ∷ c.gates ∷ []) ++ t,
      (refl, (refl, (omega arith, (omega arith, (omega arith, (omega arith, (omega arith, tt))))))),
    ))
    (rw (f, e) refl)

net_back : (net : Net) (bare : ℕ → Bool) → Bounded net
    → net_of net.counts (map (flop_item net bare) (range_with_len 0 net.counts.flops)) (map (out_at net) (range_with_len 0 net.counts.outputs))
    (map (gate_item net) (range_with_len 0 net.counts.gates)) ≡ net
net_back net bare b =
    same_net _ net refl
    (map-map (λ g. (g.left, g.right)) (gate_item net) (range_with_len 0 net.counts.gates) ∙ first_whole (0, 0) net.counts.gates net.operands b.operands_are)
    (map-map (λ f. f.next) (flop_item net bare) (range_with_len 0 net.counts.flops) ∙ first_whole 0 net.counts.flops net.nexts b.nexts_are)
    (map-map (λ f. pin f.third) (flop_item net bare) (range_with_len 0 net.counts.flops)
    ∙ sym (fill_by_all (λ j. pin (third_of (bare j) (flop_literal net.counts j) (pin_at net j))) net.pins net.counts.flops 2 b.pins_are
    (λ j l. sym (third_pin (bare j) (flop_literal net.counts j) (pin_at net j) (omega arith)
    (All-get_or (λ p. p ≤ 2) net.pins j 2 (omega (arith, b.pins_are)) b.pins_in)))))
    (first_whole 0 net.counts.outputs net.outs b.outs_are)

sections_back : (net : Net) (bare : ℕ → Bool) → Bounded net → (t : List ℕ)
    → sections net.counts (flat_map input_text (range_with_len 0 net.counts.inputs) ++ (flat_map (flop_text net bare) (range_with_len 0 net.counts.flops)
    ++ (flat_map (output_text net) (range_with_len 0 net.counts.outputs) ++ (flat_map (gate_text net) (range_with_len 0 net.counts.gates) ++ t)))) ≡ Ok (net, t)
sections_back net bare b t =
    let k = b.counts_in in
    sections_read net.counts _ _ _ _ _ _ _ _
    (each_written input_line input_text input_literal 0 net.counts.inputs (λ i l h u. input_back i (omega arith) u) _)
    (each_written (flop_line net.counts) (flop_text net bare) (flop_item net bare) 0 net.counts.flops (λ j l h u. flop_back net bare b j (omega arith) u) _)
    (each_written (output_line net.counts) (output_text net) (out_at net) 0 net.counts.outputs (λ j l h u. output_back net b j (omega arith) u) _)
    (each_written (gate_line net.counts) (gate_text net) (gate_item net) 0 net.counts.gates (λ i l h u. gate_back net b i (omega arith) u) t)
    ∙ ap (λ (m : Net). Ok (m, t)) (net_back net bare b)

pub reads_back : (lent : ℕ) (t : List ℕ) → ReadsBack lent t
reads_back lent t net b w l =
    let bare = w.0 in let later = w.1.0 in
    let I : List ℕ = flat_map input_text (range_with_len 0 net.counts.inputs) in
    let F : List ℕ = flat_map (flop_text net bare) (range_with_len 0 net.counts.flops) in
    let O : List ℕ = flat_map (output_text net) (range_with_len 0 net.counts.outputs) in
    let G : List ℕ = flat_map (gate_text net) (range_with_len 0 net.counts.gates) in
    reading_from lent t (I ++ (F ++ (O ++ (G ++ later)))) later net.counts net
    (sym (ap (as_words (λ h. h.counts)) (ap (header_line lent) (w.1.1 ∙ text_ends net bare later) ∙ header_back net b lent l (I ++ (F ++ (O ++ (G ++ later)))))))
    (sections_back net bare b later)
