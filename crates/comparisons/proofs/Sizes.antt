-- How many variables and clauses a comparison has.
use Rattle.std.proofs.Common.{◌≡◌, ℕ, zero, suc, ◌+◌, ◌*◌, ◌≤◌, List, [], ◌∷◌, ◌++◌, map, length, sym, refl, ap, ◌∙◌, mul-le-mul, arith, length-append}
use Rattle.std.specs.List.{AllByRecursion}
use Rattle.std.proofs.lemmas.List.{length-map}
use Rattle.circuits.specs.Net.{Net, before}
use Rattle.comparisons.specs.Clauses.{off, named, names, next_names, vars, gate_clauses, row_clauses, row_results, gate_count, difference_clauses, pin_literals, start, input, left_gates, given_clauses, last_variable}
use Rattle.comparisons.proofs.Sequences.{rest}
use Rattle.comparisons.proofs.Sized.{Sized}
use Rattle.comparisons.proofs.Satisfied.{length_vars}

pub length_gates : (gates : List (ℕ × ℕ)) (nets : List ℕ) (z : ℕ) → length (gate_clauses gates nets z) ≡ 3 * length gates
length_gates [] nets z = refl
length_gates ((x, y) ∷ gates) nets z = let more = length_gates gates (nets ++ 2 * z ∷ []) (suc z) in omega arith

pub length_rows : (row : List Net) (s : List ℕ) (ws : ℕ → List ℕ) (z : ℕ) → length (row_clauses row s ws z) ≡ 3 * gate_count row
length_rows [] s ws z = refl
length_rows (net ∷ row) s ws z =
    let A = gate_clauses net.operands (before off net.counts s (ws 0)) z in
    let s' = next_names net s (ws 0) z in
    let B = row_clauses row s' (rest ws) (z + length net.operands) in
    let more = length_rows row s' (rest ws) (z + length net.operands) in
    omega (arith, length-append A B, length_gates net.operands (before off net.counts s (ws 0)) z)

pub length_differ : (us ws : List ℕ) (d : ℕ) → length us ≡ length ws → length (difference_clauses us ws d) ≡ 2 * length us
length_differ [] ws d l = omega arith
length_differ (u ∷ us) [] d l = absurd (omega arith)
length_differ (u ∷ us) (w ∷ ws) d l = let more = length_differ us ws (suc d) (omega arith) in omega arith

pub length_pins : (pins : List ℕ) (z : ℕ) → length (pin_literals pins z) ≤ length pins
length_pins [] z = omega arith
length_pins (zero ∷ pins) z = let more = length_pins pins (suc z) in omega arith
length_pins (suc zero ∷ pins) z = let more = length_pins pins (suc z) in omega arith
length_pins (suc (suc p) ∷ pins) z = let more = length_pins pins (suc z) in omega arith

few_gates : (row : List Net) → AllByRecursion (λ net. length net.operands ≤ 8192) row → gate_count row ≤ length row * 8192
few_gates [] a = omega arith
few_gates (net ∷ row) (g, a) = let more = few_gates row a in omega arith

length_row_results : (inputs flops outs : ℕ) (row : List Net) → AllByRecursion (Sized inputs flops outs) row → (s : List ℕ) (ws : ℕ → List ℕ) (z : ℕ)
    → length s ≡ flops → length (row_results row s ws z) ≡ length row * outs + flops
length_row_results inputs flops outs [] f s ws z l = omega arith
length_row_results inputs flops outs (net ∷ row) (f, fits) s ws z l =
    let o = map (named (names net s (ws 0) z)) net.outs in
    let s' = next_names net s (ws 0) z in
    let more = length_row_results inputs flops outs row fits s' (rest ws) (z + length net.operands) (length-map net.nexts (named (names net s (ws 0) z)) ∙ f.nexts_are) in
    omega (arith, more, length-append o (row_results row s' (rest ws) (z + length net.operands)), length-map net.outs (named (names net s (ws 0) z)), f.outs_are)

module _ (inputs flops outs : ℕ) (fixed : List ℕ) (left right : List Net)
    (fl : AllByRecursion (Sized inputs flops outs) left) (fr : AllByRecursion (Sized inputs flops outs) right) (same : length left ≡ length right) where
  pub counted_results : (row : List Net) → AllByRecursion (Sized inputs flops outs) row → (z : ℕ)
      → length (row_results row (start inputs flops) (input inputs flops) z) ≡ length row * outs + flops
  counted_results row f z =
      length_row_results inputs flops outs row f (start inputs flops) (input inputs flops) z (length_vars flops 2)

  pub counted_variables : last_variable inputs flops left right ≡ 1 + flops + length left * inputs + (gate_count left + gate_count right) + (length left * outs + flops)
  counted_variables = let m = counted_results left fl (left_gates inputs flops left) in omega arith

  pub counted_clauses : length (given_clauses inputs flops fixed left right)
      ≡ 2 + 3 * (gate_count left + gate_count right) + 2 * (length left * outs + flops) + length fixed
  counted_clauses =
      let x = start inputs flops in
      let i = input inputs flops in
      let z = left_gates inputs flops left in
      let y = z + gate_count left in
      let d = y + gate_count right in
      let us = row_results left x i z in
      let vs = row_results right x i y in
      let A = row_clauses left x i z in
      let B = row_clauses right x i y in
      let C = difference_clauses us vs d in
      let D = vars (length us) d ∷ [] in
      let P = map (λ l. l ∷ []) fixed in
      let n-us = counted_results left fl z in
      let n-vs = counted_results right fr y in
      let turn : length left * outs ≡ length right * outs = ap (λ n. n * outs) same in
      let a = length_rows left x i z in
      let b = length_rows right x i y in
      let c = length_differ us vs d (n-us ∙ ap (λ n. n * outs + flops) same ∙ sym n-vs) in
      let e₁ = length-append A B in
      let e₂ = length-append (A ++ B) C in
      let e₃ = length-append (A ++ B ++ C) D in
      let e₄ = length-append (A ++ B ++ C ++ D) P in
      let p : length P ≡ length fixed = length-map fixed (λ l. l ∷ []) in
      omega arith

  module _ (fixed-fit : length fixed ≤ flops) (inputs-few : inputs ≤ 256) (flops-few : flops ≤ 256) (outs-few : outs ≤ 256) (short : length left ≤ 8)
      (gl : AllByRecursion (λ net. length net.operands ≤ 8192) left) (gr : AllByRecursion (λ net. length net.operands ≤ 8192) right) where
    pub few_clauses : length (given_clauses inputs flops fixed left right) ≤ 1000000
    few_clauses =
        let area : length left * outs ≤ 8 * 256 = mul-le-mul short outs-few in
        omega (arith, counted_clauses, few_gates left gl, few_gates right gr)

    pub few_variables : last_variable inputs flops left right ≤ 135681
    few_variables =
        let area : length left * outs ≤ 8 * 256 = mul-le-mul short outs-few in
        let width : length left * inputs ≤ 8 * 256 = mul-le-mul short inputs-few in
        omega (arith, counted_variables, few_gates left gl, few_gates right gr)
