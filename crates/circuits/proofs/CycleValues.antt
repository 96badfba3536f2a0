-- What the values of a cycle say of each net.
use Rattle.std.proofs.Common.{◌≡◌, ℕ, zero, suc, ◌+◌, ◌*◌, ◌/◌, ◌<◌, Bool, false, ◌&&◌, List, [], ◌∷◌, ◌++◌, length, get_or, sym, refl, ap, ◌∙◌, subst, ap₂, arith}
use Rattle.std.proofs.lemmas.List.{append_assoc, get_or_append_left, get_or-append-add, length-append, length-map, length_push}
use Rattle.std.proofs.lemmas.Grind.{common_steps}
use Rattle.circuits.specs.Net.{Net, Bounded, before, value, gate_values, values, Cycles}
use Rattle.circuits.proofs.NetsBefore.{length_before, before_ins, before_flop, get_or_first}

-- a literal of a net that stands in the front has its value there
front_value : (nets more : List Bool) (x : ℕ) → x / 2 < length nets → value nets x ≡ value (nets ++ more) x
front_value nets more x h = grind (arith, common_steps)

-- an even literal is its net
even_value : (nets : List Bool) (v : ℕ) → value nets (2 * v) ≡ get_or nets v false
even_value nets v = grind (arith, common_steps)

pub length_gate_values : (gs : List (ℕ × ℕ)) (nets : List Bool) → length (gate_values gs nets) ≡ length gs
length_gate_values [] nets = refl
length_gate_values (g ∷ gs) nets = ap suc (length_gate_values gs (nets ++ ((value nets g.0 && value nets g.1) ∷ [])))

-- gate i is the AND of its operands, whatever nets they name before it
gate_is_and : (gs : List (ℕ × ℕ)) (nets : List Bool) (i : ℕ) → i < length gs
    → (get_or gs i (0, 0)).0 / 2 < length nets + i → (get_or gs i (0, 0)).1 / 2 < length nets + i
    → get_or (nets ++ gate_values gs nets) (length nets + i) false
    ≡ (value (nets ++ gate_values gs nets) (get_or gs i (0, 0)).0 && value (nets ++ gate_values gs nets) (get_or gs i (0, 0)).1)
gate_is_and [] nets i h l r = absurd (omega arith)
gate_is_and (g ∷ gs) nets zero h l r =
    get_or-append-add nets (gate_values (g ∷ gs) nets) 0 false
    ∙ ap₂ (λ x y. x && y) (front_value nets (gate_values (g ∷ gs) nets) g.0 (omega arith)) (front_value nets (gate_values (g ∷ gs) nets) g.1 (omega arith))
gate_is_and (g ∷ gs) nets (suc i) h l r =
    let b = value nets g.0 && value nets g.1 in
    let nets' : List Bool = nets ++ (b ∷ []) in
    let n : length nets' ≡ length nets + 1 = length_push nets b in
    let e : nets' ++ gate_values gs nets' ≡ nets ++ gate_values (g ∷ gs) nets = append_assoc nets (b ∷ []) (gate_values gs nets') in
    let k : length nets' + i ≡ length nets + suc i = omega arith in
    let ih = gate_is_and gs nets' i (omega arith) (omega arith) (omega arith) in
    subst (λ (w : List Bool). get_or w (length nets + suc i) false ≡ (value w (get_or gs i (0, 0)).0 && value w (get_or gs i (0, 0)).1)) e
    (ap (λ m. get_or (nets' ++ gate_values gs nets') m false) (sym k) ∙ ih)

pub cycles : (net : Net) → Bounded net → Cycles net
cycles net b state inputs =
    let c = net.counts in
    let nets : List Bool = before false c state inputs in
    let gates : List Bool = gate_values net.operands nets in
    let ln : length nets ≡ 1 + c.inputs + c.flops = length_before false c state inputs in
    let lg : length gates ≡ c.gates = length_gate_values net.operands nets ∙ b.operands_are in
    let lw : length (nets ++ gates) ≡ length nets + length gates = length-append nets gates in
    record {
      false_net = refl;
      input_nets = λ i h.
          let s : 1 + i ≡ suc i = omega arith in
          even_value (nets ++ gates) (1 + i) ∙ ap (λ m. get_or (nets ++ gates) m false) s ∙ get_or_append_left nets gates false (suc i) (omega arith)
          ∙ before_ins false c state inputs (suc i) (omega arith) ∙ get_or_first false c.inputs inputs i h;
      flop_nets = λ j h.
          even_value (nets ++ gates) (1 + c.inputs + j) ∙ get_or_append_left nets gates false (1 + c.inputs + j) (omega arith)
          ∙ before_flop false c state inputs j h;
      gate_nets = λ i h.
          let o = b.operands_in i h in let o₀ = o.0 in let o₁ = o.1 in
          let s : 1 + c.inputs + c.flops + i ≡ length nets + i = omega arith in
          even_value (nets ++ gates) (1 + c.inputs + c.flops + i) ∙ ap (λ m. get_or (nets ++ gates) m false) s
          ∙ gate_is_and net.operands nets i (omega (arith, b.operands_are)) (omega arith) (omega arith);
      all_nets = omega arith;
      outs_given = length-map net.outs (value (values net state inputs)) ∙ b.outs_are;
      nexts_given = length-map net.nexts (value (values net state inputs)) ∙ b.nexts_are;
    }
