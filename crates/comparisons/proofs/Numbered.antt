-- Each clause stands where its number says.
use Rattle.std.proofs.Common.{◌≡◌, ℕ, zero, suc, ◌+◌, ◌-◌, ◌*◌, ◌/◌, ◌%◌, ◌<◌, ◌≤◌, List, [], ◌∷◌, ◌++◌, map, length, get_or, take, sym, refl, ap, ◌∙◌, ap₂, inl, inr, append_assoc, append-nil, arith}
use Rattle.std.specs.List.{AllByRecursion}
use Rattle.std.proofs.lemmas.List.{get_or_append_left, get_or-append-add, get_or-map, length-map}
use Rattle.std.proofs.lemmas.Bool.{cases_lt}
use Rattle.std.proofs.lemmas.Grind.{common_steps}
use Rattle.circuits.specs.Net.{Net, Bounded, gate_at, next_at, out_at, turned, before}
use Rattle.circuits.proofs.NetsBefore.{get_or_first, length_before, before_ins, before_flop}
use Rattle.comparisons.specs.Clauses.{negated, clause_at, off, named, names, next_names, vars, gate_clauses, row_clauses, row_results, gate_count, difference_clauses, pin_literals, start, input, left_gates, right_gates, differences, left_results, right_results}
use Rattle.comparisons.specs.Places.{gate_clause, difference_clause, pinned, net_at, cycle_at, flops_at, names_at, NetsNamed, BitsNamed, Placed, PinsPlaced}
use Rattle.comparisons.proofs.Sequences.{rest}
use Rattle.comparisons.proofs.Sized.{Sized}
use Rattle.comparisons.proofs.Sizes.{length_gates, length_rows, length_differ, counted_results, counted_variables, counted_clauses}

-- variables in a row

pub get_or_vars : (n z k d : ℕ) → k < n → get_or (vars n z) k d ≡ 2 * (z + k)
get_or_vars zero z k d l = absurd (omega arith)
get_or_vars (suc n) z zero d l = omega arith
get_or_vars (suc n) z (suc k) d l = let more = get_or_vars n (suc z) k d (omega arith) in omega arith

-- the literal of each net

pub nets_named : (net : Net) (s w : List ℕ) (z : ℕ) → NetsNamed net s w z
nets_named net s w z =
    let I = net.counts.inputs in
    let L = net.counts.flops in
    let G = length net.operands in
    let nets = before off net.counts s w in
    let lb = length_before off net.counts s w in
    record {
      of_off = refl;
      of_input = λ i b.
          let f : 1 + i ≡ suc i = omega arith in
          ap (λ m. get_or (nets ++ vars G z) m off) f ∙ get_or_append_left nets (vars G z) off (suc i) (omega arith)
          ∙ before_ins off net.counts s w (suc i) (omega arith) ∙ get_or_first off I w i b;
      of_flop = λ j b. get_or_append_left nets (vars G z) off (1 + I + j) (omega arith) ∙ before_flop off net.counts s w j b;
      of_gate = λ g b.
          let e : 1 + I + L + g ≡ length nets + g = omega arith in
          ap (λ m. get_or (nets ++ vars G z) m off) e ∙ get_or-append-add nets (vars G z) g off ∙ get_or_vars G z g off b;
    }

pub bits_named : (inputs flops : ℕ) → BitsNamed inputs flops
bits_named inputs flops = record {
  of_start = λ j b. get_or_vars flops 2 j off b;
  of_input = λ t i b. get_or_vars inputs (2 + flops + t * inputs) i off b;
}

-- the clauses of a gate

-- with fewer variables after the nets, a literal below them is the same
named_more : (nets : List ℕ) (i n z x : ℕ) → i ≤ n → x / 2 < length nets + i → named (nets ++ vars i z) x ≡ named (nets ++ vars n z) x
named_more nets i n z x l b =
    let k = x / 2 in
    let same : get_or (nets ++ vars i z) k off ≡ get_or (nets ++ vars n z) k off
    = elim (cases_lt k (length nets)) [
      | inl c ↦ get_or_append_left nets (vars i z) off k c ∙ sym (get_or_append_left nets (vars n z) off k c)
      | inr c ↦
          let e : k ≡ length nets + (k - length nets) = omega arith in
          ap (λ m. get_or (nets ++ vars i z) m off) e ∙ get_or-append-add nets (vars i z) (k - length nets) off ∙ get_or_vars i z (k - length nets) off (omega arith)
          ∙ sym (get_or_vars n z (k - length nets) off (omega arith)) ∙ sym (get_or-append-add nets (vars n z) (k - length nets) off) ∙ ap (λ m. get_or (nets ++ vars n z) m off) (sym e)
    ] in
    ap (turned negated (x % 2)) same

gate_place : (gates : List (ℕ × ℕ)) (nets : List ℕ) (z i r : ℕ) → i < length gates → r < 3
    → get_or (gate_clauses gates nets z) (3 * i + r) []
    ≡ gate_clause r (z + i) (named (nets ++ vars i z) (get_or gates i (0, 0)).0) (named (nets ++ vars i z) (get_or gates i (0, 0)).1)
gate_place [] nets z i r l b = absurd (omega arith)
gate_place ((x, y) ∷ gates) nets z zero zero l b =
    let e : z + 0 ≡ z = omega arith in let f : 3 * 0 + 0 ≡ 0 = omega arith in rw (e, append-nil nets)
gate_place ((x, y) ∷ gates) nets z zero (suc zero) l b =
    let e : z + 0 ≡ z = omega arith in rw (e, append-nil nets)
gate_place ((x, y) ∷ gates) nets z zero (suc (suc zero)) l b =
    let e : z + 0 ≡ z = omega arith in rw (e, append-nil nets)
gate_place ((x, y) ∷ gates) nets z zero (suc (suc (suc r))) l b = absurd (omega arith)
gate_place ((x, y) ∷ gates) nets z (suc i) r l b =
    let e : 3 * suc i + r ≡ suc (suc (suc (3 * i + r))) = omega arith in
    let f : z + suc i ≡ suc z + i = omega arith in
    let g : (nets ++ 2 * z ∷ []) ++ vars i (suc z) ≡ nets ++ (2 * z ∷ vars i (suc z)) = append_assoc nets (2 * z ∷ []) (vars i (suc z)) in
    rw (e, f) (gate_place gates (nets ++ 2 * z ∷ []) (suc z) i r (omega arith) b
    ∙ ap (λ n. gate_clause r (suc z + i) (named n (get_or gates i (0, 0)).0) (named n (get_or gates i (0, 0)).1)) g)

cycle_place : (net : Net) → Bounded net → (s w : List ℕ) (z i r : ℕ) → i < length net.operands → r < 3
    → get_or (gate_clauses net.operands (before off net.counts s w) z) (3 * i + r) []
    ≡ gate_clause r (z + i) (named (names net s w z) (gate_at net i).0) (named (names net s w z) (gate_at net i).1)
cycle_place net back s w z i r l b =
    let nets = before off net.counts s w in
    let ops = gate_at net i in
    let (bx, by) = back.operands_in i (omega (arith, back.operands_are)) in
    let n = length_before off net.counts s w in
    gate_place net.operands nets z i r l b
    ∙ ap₂ (gate_clause r (z + i)) (named_more nets i (length net.operands) z ops.0 (omega arith) (omega arith)) (named_more nets i (length net.operands) z ops.1 (omega arith) (omega arith))

-- one cycle on

module _ (net : Net) (row : List Net) (s : List ℕ) (ws : ℕ → List ℕ) (z : ℕ) where
  abbrev s' : List ℕ
  s' = next_names net s (ws 0) z

  abbrev z' : ℕ
  z' = z + length net.operands

  cycle_on : (t : ℕ) → cycle_at (net ∷ row) s ws z (suc t) ≡ cycle_at row s' (rest ws) z' t
  cycle_on t = omega arith

  flops_on : (t : ℕ) → flops_at (net ∷ row) s ws z (suc t) ≡ flops_at row s' (rest ws) z' t
  flops_on zero = let e : z + 0 ≡ z = omega arith in ap (λ y. map (named (names net s (ws 0) y)) net.nexts) e
  flops_on (suc t) = ap₂ (λ x y. map (named (names (net_at row t) x (ws (suc t)) y)) (net_at row t).nexts) (flops_on t) (cycle_on t)

  names_on : (t : ℕ) → names_at (net ∷ row) s ws z (suc t) ≡ names_at row s' (rest ws) z' t
  names_on t = ap₂ (λ x y. names (net_at row t) x (ws (suc t)) y) (flops_on t) (cycle_on t)

row_place : (row : List Net) → AllByRecursion Bounded row → (s : List ℕ) (ws : ℕ → List ℕ) (z t i r : ℕ) → t < length row → i < length (net_at row t).operands → r < 3
    → get_or (row_clauses row s ws z) (3 * (gate_count (take t row) + i) + r) []
    ≡ gate_clause r (z + (gate_count (take t row) + i))
    (named (names_at row s ws z t) (gate_at (net_at row t) i).0) (named (names_at row s ws z t) (gate_at (net_at row t) i).1)
row_place [] back s ws z t i r lt li lr = absurd (omega arith)
row_place (net ∷ row) (b, back) s ws z zero i r lt li lr =
    let A = gate_clauses net.operands (before off net.counts s (ws 0)) z in
    let B = row_clauses row (s' net row s ws z) (rest ws) (z' net row s ws z) in
    let e : 0 + i ≡ i = omega arith in
    let f : z + 0 ≡ z = omega arith in
    let n = length_gates net.operands (before off net.counts s (ws 0)) z in
    rw (e, f) (get_or_append_left A B [] (3 * i + r) (omega arith) ∙ cycle_place net b s (ws 0) z i r li lr)
row_place (net ∷ row) (b, back) s ws z (suc t) i r lt li lr =
    let A = gate_clauses net.operands (before off net.counts s (ws 0)) z in
    let B = row_clauses row (s' net row s ws z) (rest ws) (z' net row s ws z) in
    let q = gate_count (take t row) + i in
    let n = length_gates net.operands (before off net.counts s (ws 0)) z in
    let e : 3 * (length net.operands + gate_count (take t row) + i) + r ≡ length A + (3 * q + r) = omega arith in
    let f : z + (length net.operands + gate_count (take t row) + i) ≡ z' net row s ws z + q = omega arith in
    let ops = gate_at (net_at row t) i in
    ap (λ m. get_or (A ++ B) m []) e ∙ get_or-append-add A B (3 * q + r) []
    ∙ row_place row back (s' net row s ws z) (rest ws) (z' net row s ws z) t i r (omega arith) li lr
    ∙ ap₂ (λ y n. gate_clause r y (named n ops.0) (named n ops.1)) (sym f) (sym (names_on net row s ws z t))

-- what is compared

module _ (inputs flops outs : ℕ) where
  output_place : (row : List Net) → AllByRecursion (Sized inputs flops outs) row → (s : List ℕ) (ws : ℕ → List ℕ) (z t j : ℕ) → t < length row → j < outs
      → get_or (row_results row s ws z) (t * outs + j) off ≡ named (names_at row s ws z t) (out_at (net_at row t) j)
  output_place [] fits s ws z t j lt lj = absurd (omega arith)
  output_place (net ∷ row) (f, fits) s ws z zero j lt lj =
      let o = map (named (names net s (ws 0) z)) net.outs in
      let more = row_results row (s' net row s ws z) (rest ws) (z' net row s ws z) in
      let n = length-map net.outs (named (names net s (ws 0) z)) in
      let e : 0 * outs + j ≡ j = omega arith in
      let g : z + 0 ≡ z = omega arith in
      let many = f.outs_are in
      rw (e, g) (get_or_append_left o more off j (omega arith) ∙ get_or-map (named (names net s (ws 0) z)) net.outs j 0 off (omega arith))
  output_place (net ∷ row) (f, fits) s ws z (suc t) j lt lj =
      let o = map (named (names net s (ws 0) z)) net.outs in
      let more = row_results row (s' net row s ws z) (rest ws) (z' net row s ws z) in
      let n = length-map net.outs (named (names net s (ws 0) z)) in
      let many = f.outs_are in
      let e : suc t * outs + j ≡ length o + (t * outs + j) = omega arith in
      ap (λ m. get_or (o ++ more) m off) e ∙ get_or-append-add o more (t * outs + j) off
      ∙ output_place row fits (s' net row s ws z) (rest ws) (z' net row s ws z) t j (omega arith) lj
      ∙ ap (λ n. named n (out_at (net_at row t) j)) (sym (names_on net row s ws z t))

  final_place : (row : List Net) → AllByRecursion (Sized inputs flops outs) row → (s : List ℕ) (ws : ℕ → List ℕ) (z j : ℕ)
      → get_or (row_results row s ws z) (length row * outs + j) off ≡ get_or (flops_at row s ws z (length row)) j off
  final_place [] fits s ws z j = let e : 0 * outs + j ≡ j = omega arith in rw e
  final_place (net ∷ row) (f, fits) s ws z j =
      let o = map (named (names net s (ws 0) z)) net.outs in
      let more = row_results row (s' net row s ws z) (rest ws) (z' net row s ws z) in
      let n = length-map net.outs (named (names net s (ws 0) z)) in
      let many = f.outs_are in
      let e : suc (length row) * outs + j ≡ length o + (length row * outs + j) = omega arith in
      ap (λ m. get_or (o ++ more) m off) e ∙ get_or-append-add o more (length row * outs + j) off
      ∙ final_place row fits (s' net row s ws z) (rest ws) (z' net row s ws z) j
      ∙ ap (λ x. get_or x j off) (sym (flops_on net row s ws z (length row)))

  nexts_at : (row : List Net) → AllByRecursion (Sized inputs flops outs) row → (t : ℕ) → t < length row → length (net_at row t).nexts ≡ flops
  nexts_at [] fits t l = absurd (omega arith)
  nexts_at (net ∷ row) (f, fits) zero l = f.nexts_are
  nexts_at (net ∷ row) (f, fits) (suc t) l = nexts_at row fits t (omega arith)

  flop_place : (row : List Net) → AllByRecursion (Sized inputs flops outs) row → (s : List ℕ) (ws : ℕ → List ℕ) (z t j : ℕ) → t < length row → j < flops
      → get_or (flops_at row s ws z (suc t)) j off ≡ named (names_at row s ws z t) (next_at (net_at row t) j)
  flop_place row fits s ws z t j lt lj =
      let n = nexts_at row fits t lt in get_or-map (named (names_at row s ws z t)) (net_at row t).nexts j 0 off (omega arith)

difference_place : (us ws : List ℕ) (d e r : ℕ) → length us ≡ length ws → e < length us → r < 2
    → get_or (difference_clauses us ws d) (2 * e + r) [] ≡ difference_clause r (d + e) (get_or us e off) (get_or ws e off)
difference_place [] ws d e r l b c = absurd (omega arith)
difference_place (u ∷ us) [] d e r l b c = absurd (omega arith)
difference_place (u ∷ us) (w ∷ ws) d zero zero l b c = let e : d + 0 ≡ d = omega arith in rw e
difference_place (u ∷ us) (w ∷ ws) d zero (suc zero) l b c = let e : d + 0 ≡ d = omega arith in rw e
difference_place (u ∷ us) (w ∷ ws) d zero (suc (suc r)) l b c = absurd (omega arith)
difference_place (u ∷ us) (w ∷ ws) d (suc e) r l b c =
    let f : 2 * suc e + r ≡ suc (suc (2 * e + r)) = omega arith in
    let g : d + suc e ≡ suc d + e = omega arith in
    rw (f, g) (difference_place us ws (suc d) e r (omega arith) (omega arith) c)

-- the bit b of pin j
pin_place : (pins : List ℕ) (z j b : ℕ) → b < 2 → get_or pins j 2 ≡ b → get_or (pin_literals pins z) (pinned (take j pins)) 0 ≡ 2 * (z + j) + 1 - b
pin_place [] z j b l e = absurd (omega arith)
pin_place (zero ∷ pins) z zero b l e = omega arith
pin_place (suc zero ∷ pins) z zero b l e = omega arith
pin_place (suc (suc p) ∷ pins) z zero b l e = absurd (omega arith)
pin_place (zero ∷ pins) z (suc j) b l e = let more = pin_place pins (suc z) j b l e in omega arith
pin_place (suc zero ∷ pins) z (suc j) b l e = let more = pin_place pins (suc z) j b l e in omega arith
pin_place (suc (suc p) ∷ pins) z (suc j) b l e = let more = pin_place pins (suc z) j b l e in omega arith

count_pinned : (pins : List ℕ) (z : ℕ) → length (pin_literals pins z) ≡ pinned pins
count_pinned [] z = refl
count_pinned (zero ∷ pins) z = ap suc (count_pinned pins (suc z))
count_pinned (suc zero ∷ pins) z = ap suc (count_pinned pins (suc z))
count_pinned (suc (suc p) ∷ pins) z = count_pinned pins (suc z)

part_gates : (row : List Net) (t i : ℕ) → t < length row → i < length (net_at row t).operands → gate_count (take t row) + i < gate_count row
part_gates [] t i lt li = absurd (omega arith)
part_gates (net ∷ row) zero i lt li = omega arith
part_gates (net ∷ row) (suc t) i lt li = let more = part_gates row t i (omega arith) li in omega arith

-- five lists after another, after one element

module _ (x : List ℕ) (As Bs Cs Ds Es : List (List ℕ)) where
  abbrev whole : List (List ℕ)
  whole = x ∷ (As ++ Bs ++ Cs ++ Ds ++ Es)

  -- clause 2 + k is the k-th after the first
  later : (c k : ℕ) → c ≡ 2 + k → clause_at whole c ≡ get_or (As ++ Bs ++ Cs ++ Ds ++ Es) k []
  later c k e = let i : c ≡ suc (suc k) = omega arith in ap (clause_at whole) i

  at_A : (c k : ℕ) → c ≡ 2 + k → k < length As → clause_at whole c ≡ get_or As k []
  at_A c k e b = grind (arith, common_steps, later c k e)

  at_B : (c k : ℕ) → c ≡ 2 + (length As + k) → k < length Bs → clause_at whole c ≡ get_or Bs k []
  at_B c k e b = grind (arith, common_steps, later c (length As + k) e)

  at_C : (c k : ℕ) → c ≡ 2 + (length As + length Bs + k) → k < length Cs → clause_at whole c ≡ get_or Cs k []
  at_C c k e b = grind (arith, common_steps, later c (length As + length Bs + k) e)

  at_D : (c k : ℕ) → c ≡ 2 + (length As + length Bs + length Cs + k) → k < length Ds → clause_at whole c ≡ get_or Ds k []
  at_D c k e b = grind (arith, common_steps, later c (length As + length Bs + length Cs + k) e)

  at_E : (c k : ℕ) → c ≡ 2 + (length As + length Bs + length Cs + length Ds + k) → clause_at whole c ≡ get_or Es k []
  at_E c k e = grind (arith, common_steps, later c (length As + length Bs + length Cs + length Ds + k) e)

pub placed : (inputs flops outs : ℕ) (fixed : List ℕ) (left right : List Net)
    → AllByRecursion (Sized inputs flops outs) left → AllByRecursion (Sized inputs flops outs) right → length left ≡ length right → AllByRecursion Bounded left → AllByRecursion Bounded right
    → Placed inputs flops outs fixed left right
placed inputs flops outs fixed left right fl fr same bl br =
    let s = start inputs flops in
    let w = input inputs flops in
    let z = left_gates inputs flops left in
    let y = right_gates inputs flops left in
    let d = differences inputs flops left right in
    let us = left_results inputs flops left in
    let vs = right_results inputs flops left right in
    let As = row_clauses left s w z in
    let Bs = row_clauses right s w y in
    let Cs = difference_clauses us vs d in
    let Ds = vars (length us) d ∷ [] in
    let Es = map (λ l. l ∷ []) fixed in
    let T = gate_count left + gate_count right in
    let m = length left * outs + flops in
    let la = length_rows left s w z in
    let lb = length_rows right s w y in
    let lu : length us ≡ m = counted_results inputs flops outs fixed left right fl fr same left fl z in
    let lv : length vs ≡ m = counted_results inputs flops outs fixed left right fl fr same right fr y ∙ ap (λ n. n * outs + flops) (sym same) in
    let lc : length Cs ≡ 2 * m = length_differ us vs d (lu ∙ sym lv) ∙ ap (λ n. 2 * n) lu in
    let ld : length Ds ≡ 1 = refl in
    record {
      constant = refl;
      of_left = record {
        gate = λ t i r lt li lr.
            let g = gate_count (take t left) + i in
            let b = part_gates left t i lt li in
            at_A (3 ∷ []) As Bs Cs Ds Es (2 + 3 * (0 + g) + r) (3 * g + r) (omega arith) (omega arith) ∙ row_place left bl s w z t i r lt li lr;
        output = λ t j lt lj. output_place inputs flops outs left fl s w z t j lt lj;
        final = λ j. final_place inputs flops outs left fl s w z j;
        flop_later = λ t j lt lj. flop_place inputs flops outs left fl s w z t j lt lj;
      };
      of_right = record {
        gate = λ t i r lt li lr.
            let g = gate_count (take t right) + i in
            let b = part_gates right t i lt li in
            at_B (3 ∷ []) As Bs Cs Ds Es (2 + 3 * (gate_count left + g) + r) (3 * g + r) (omega arith) (omega arith) ∙ row_place right br s w y t i r lt li lr;
        output = λ t j lt lj. output_place inputs flops outs right fr s w y t j lt lj;
        final = λ j. final_place inputs flops outs right fr s w y j;
        flop_later = λ t j lt lj. flop_place inputs flops outs right fr s w y t j lt lj;
      };
      difference = λ e r le lr.
          at_C (3 ∷ []) As Bs Cs Ds Es (2 + 3 * T + 2 * e + r) (2 * e + r) (omega arith) (omega arith) ∙ difference_place us vs d e r (lu ∙ sym lv) (omega arith) lr;
      all_differences = at_D (3 ∷ []) As Bs Cs Ds Es (2 + 3 * T + 2 * m) 0 (omega arith) (omega arith) ∙ ap (λ n. vars n d) lu;
      fixed_bit = λ k lk. at_E (3 ∷ []) As Bs Cs Ds Es (3 + 3 * T + 2 * m + k) k (omega arith) ∙ get_or-map (λ l. l ∷ []) fixed k 0 [] lk;
      variables = counted_variables inputs flops outs fixed left right fl fr same;
      clauses = counted_clauses inputs flops outs fixed left right fl fr same;
    }

pub pins_placed : (pins : List ℕ) → PinsPlaced pins
pins_placed pins = record {
  of_0 = λ j e. let p = pin_place pins 2 j 0 (omega arith) e in omega arith;
  of_1 = λ j e. let p = pin_place pins 2 j 1 (omega arith) e in omega arith;
  as_many = count_pinned pins 2;
}
