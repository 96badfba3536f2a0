-- An accepted reading comes from accepted parts.
use Rattle.std.proofs.Common.{◌≡◌, ℕ, ◌≤◌, List, [], ◌++◌, length, take, drop, Ok, Err, OnOk, Result, sym, refl, ap, ◌∙◌}
use Rattle.std.specs.List.{range_with_len}
use Rattle.aiger.specs.declared.fault.ReadFault.{ReadFault}
use Rattle.circuits.specs.declared.counts.Counts.{Counts}
use Rattle.aiger.specs.declared.lines.FlopLine.{FlopLine}
use Rattle.aiger.specs.declared.lines.GateLine.{GateLine}
use Rattle.aiger.specs.Beside.{as_words, holding}
use Rattle.circuits.specs.Net.{Net, layout, operand_words, room}
use Rattle.aiger.specs.Reading.{each, onward, input_line, flop_line, output_line, gate_line, header_line, nexts_of, pins_of, operands_of, net_of, sections, reading, words_after}
use Rattle.std.proofs.lemmas.List.{append_assoc, take-append-drop, length-take-le}

pub onward_parts : {X Y : Type 0} (r : Result (X × List ℕ) ReadFault) (go : X → List ℕ → Result Y ReadFault) (y : Y)
    → onward r go ≡ Ok y → (p : X × List ℕ) × ((r ≡ Ok p) × (go p.0 p.1 ≡ Ok y))
onward_parts (Err f) go y e = absurd (cc)
onward_parts (Ok p) go y e = (p, (refl, e))

pub net_kept : (r : Result (Net × List ℕ) ReadFault) (net : Net) → onward r (λ m _. Ok m) ≡ Ok net → (u : List ℕ) × (r ≡ Ok (net, u))
net_kept (Err f) net e = absurd (cc)
net_kept (Ok p) net e = let q : p.0 ≡ net = cc in (p.1, ap (λ (m : Net). Ok (m, p.1)) q)

-- the four sections that an accepted circuit was read from
pub record Parts (c : Counts) (t : List ℕ) (net : Net) (rest : List ℕ) : Type 0 where
  pub is : List ℕ
  pub fs : List FlopLine
  pub os : List ℕ
  pub gs : List GateLine
  pub t₁ : List ℕ
  pub t₂ : List ℕ
  pub t₃ : List ℕ
  pub inputs_read : each input_line (range_with_len 0 c.inputs) t ≡ Ok (is, t₁)
  pub flops_read : each (flop_line c) (range_with_len 0 c.flops) t₁ ≡ Ok (fs, t₂)
  pub outputs_read : each (output_line c) (range_with_len 0 c.outputs) t₂ ≡ Ok (os, t₃)
  pub gates_read : each (gate_line c) (range_with_len 0 c.gates) t₃ ≡ Ok (gs, rest)
  pub net_is : net ≡ net_of c fs os gs

pub sections_parts : (c : Counts) (t : List ℕ) (net : Net) (rest : List ℕ) → sections c t ≡ Ok (net, rest) → Parts c t net rest
sections_parts c t net rest e =
    let a = onward_parts (each input_line (range_with_len 0 c.inputs) t) _ (net, rest) e in
    let b = onward_parts (each (flop_line c) (range_with_len 0 c.flops) a.0.1) _ (net, rest) a.1.1 in
    let d = onward_parts (each (output_line c) (range_with_len 0 c.outputs) b.0.1) _ (net, rest) b.1.1 in
    let g = onward_parts (each (gate_line c) (range_with_len 0 c.gates) d.0.1) _ (net, rest) d.1.1 in
    let q : ◌≡◌ {A = Net × List ℕ} (net_of c b.0.0 d.0.0 g.0.0, g.0.1) (net, rest) = cc in
    let n : net ≡ net_of c b.0.0 d.0.0 g.0.0 = sym (ap (λ (x : Net × List ℕ). x.0) q) in
    let l : g.0.1 ≡ rest = ap (λ (x : Net × List ℕ). x.1) q in
    record {
      is = a.0.0;
      fs = b.0.0;
      os = d.0.0;
      gs = g.0.0;
      t₁ = a.0.1;
      t₂ = b.0.1;
      t₃ = d.0.1;
      inputs_read = a.1.0;
      flops_read = b.1.0;
      outputs_read = d.1.0;
      gates_read = g.1.0 ∙ ap (λ (u : List ℕ). Ok (g.0.0, u)) l;
      net_is = n;
    }

pub sections_counts : (c : Counts) (t : List ℕ) (net : Net) (rest : List ℕ) → sections c t ≡ Ok (net, rest) → net.counts ≡ c
sections_counts c t net rest e = ap (λ (m : Net). m.counts) (sections_parts c t net rest e).net_is

words_ok : {X S : Type 0} (f : X → S) (r : Result (X × List ℕ) ReadFault) (s : S) (u : List ℕ)
    → Ok (s, u) ≡ as_words f r → (x : X) × ((r ≡ Ok (x, u)) × (f x ≡ s))
words_ok f (Err e) s u h = absurd (cc)
words_ok {X = X} {S = S} f (Ok p) s u h =
    let q : ◌≡◌ {A = S × List ℕ} (f p.0, p.1) (s, u) = cc in
    let l : p.1 ≡ u = ap (λ (x : S × List ℕ). x.1) q in
    (p.0, (ap (λ (v : List ℕ). Ok (p.0, v)) l, ap (λ (x : S × List ℕ). x.0) q))

-- the sections one after the other, up to what the gates are read as
pub sections_read : (c : Counts) (t t₁ t₂ t₃ is os : List ℕ) (fs : List FlopLine) (gates : Result (List GateLine × List ℕ) ReadFault)
    → each input_line (range_with_len 0 c.inputs) t ≡ Ok (is, t₁) → each (flop_line c) (range_with_len 0 c.flops) t₁ ≡ Ok (fs, t₂)
    → each (output_line c) (range_with_len 0 c.outputs) t₂ ≡ Ok (os, t₃) → each (gate_line c) (range_with_len 0 c.gates) t₃ ≡ gates
    → sections c t ≡ onward gates (λ gs u. Ok (net_of c fs os gs, u))
sections_read c t t₁ t₂ t₃ is os fs gates a b d e = rw (a, b, d, e) refl

pub sections_end : (c : Counts) (t t₁ t₂ t₃ t₄ ws iw fw ow gw : List ℕ) (r : Result (Unit {0}) ReadFault)
    → Ok (iw, t₁) ≡ as_words (λ _. []) (each input_line (range_with_len 0 c.inputs) t)
    → Ok (fw, t₂) ≡ as_words (λ fs. nexts_of fs ++ pins_of fs) (each (flop_line c) (range_with_len 0 c.flops) t₁)
    → Ok (ow, t₃) ≡ as_words (λ os. os) (each (output_line c) (range_with_len 0 c.outputs) t₂)
    → holding gw t₄ r ≡ as_words (λ gs. operand_words (operands_of gs)) (each (gate_line c) (range_with_len 0 c.gates) t₃)
    → ws ≡ gw ++ (fw ++ ow)
    → holding ws t₄ r ≡ as_words layout (sections c t)
sections_end c t t₁ t₂ t₃ t₄ ws iw fw ow gw r a b d e w =
    let i = words_ok (λ _. []) (each input_line (range_with_len 0 c.inputs) t) iw t₁ a in
    let f = words_ok (λ fs. nexts_of fs ++ pins_of fs) (each (flop_line c) (range_with_len 0 c.flops) t₁) fw t₂ b in
    let o = words_ok (λ os. os) (each (output_line c) (range_with_len 0 c.outputs) t₂) ow t₃ d in
    let g = each (gate_line c) (range_with_len 0 c.gates) t₃ in
    last f.0 o.0 f.1.1 o.1.1 g r e ∙ sym (ap (as_words layout) (sections_read c t t₁ t₂ t₃ i.0 o.0 f.0 g i.1.0 f.1.0 o.1.0 refl))
  where
    last : (fs : List FlopLine) (os : List ℕ) → nexts_of fs ++ pins_of fs ≡ fw → os ≡ ow
        → (g : Result (List GateLine × List ℕ) ReadFault) (r : Result (Unit {0}) ReadFault)
        → holding gw t₄ r ≡ as_words (λ gs. operand_words (operands_of gs)) g
        → holding ws t₄ r ≡ as_words layout (onward g (λ gs u. Ok (net_of c fs os gs, u)))
    last fs os x y (Ok p) (Ok u) e =
        let q : ◌≡◌ {A = List ℕ × List ℕ} (gw, t₄) (operand_words (operands_of p.0), p.1) = cc in
        let v = ap (λ (m : List ℕ × List ℕ). m.0) q in
        let z = append_assoc (nexts_of fs) (pins_of fs) os in
        let n : ws ≡ layout (net_of c fs os p.0) = cc in
        λ k. Ok (n k, (q k).1)
    last fs os x y (Ok p) (Err f) e = absurd (cc)
    last fs os x y (Err f) (Ok u) e = absurd (cc)
    last fs os x y (Err f) (Err h) e = e

pub on_ok : {X F P : Type 0} (r : Result X F) → P → OnOk r P
on_ok (Ok x) p = p
on_ok (Err f) p = tt

-- line 1 accepted: what is read after it, where only its counts were kept
reading_on : (lent : ℕ) (t t₁ : List ℕ) (c : Counts) → Ok (c, t₁) ≡ as_words (λ h. h.counts) (header_line lent t)
    → reading lent t ≡ onward (sections c t₁) (λ net _. Ok net)
reading_on lent t t₁ c a =
    let h = words_ok (λ h. h.counts) (header_line lent t) c t₁ a in
    ap (λ r. onward r (λ h u. onward (sections h.counts u) (λ net _. Ok net))) h.1.0
    ∙ ap (λ k. onward (sections k t₁) (λ net _. Ok net)) h.1.1

pub reading_from : (lent : ℕ) (t t₁ t₂ : List ℕ) (c : Counts) (net : Net) → Ok (c, t₁) ≡ as_words (λ h. h.counts) (header_line lent t)
    → sections c t₁ ≡ Ok (net, t₂) → reading lent t ≡ Ok net
reading_from lent t t₁ t₂ c net a b = reading_on lent t t₁ c a ∙ ap (λ q. onward q (λ net _. Ok net)) b

-- an accepted text: the circuit's words, and then what the words held
pub accepted_words : (lent : ℕ) (t t₀ t₁ t₂ ws ws' : List ℕ) (c : Counts) → t₀ ≡ t
    → Ok (c, t₁) ≡ as_words (λ h. h.counts) (header_line lent t₀)
    → Ok (take (room c) ws', t₂) ≡ as_words layout (sections c t₁)
    → drop (room c) ws' ≡ drop (room c) ws
    → room c ≤ length ws'
    → ws' ≡ words_after (reading lent t) ws
accepted_words lent t t₀ t₁ t₂ ws ws' c z a b d k =
    let s = words_ok layout (sections c t₁) (take (room c) ws') t₂ b in
    let n = s.0 in
    let r : reading lent t ≡ Ok n
    = reading_from lent t t₁ t₂ c n (a ∙ ap (λ u. as_words (λ h. h.counts) (header_line lent u)) z) s.1.0 in
    let l : length (layout n) ≡ room c = ap length s.1.1 ∙ length-take-le (room c) ws' k in
    let w : ws' ≡ layout n ++ drop (length (layout n)) ws
    = sym (take-append-drop (room c) ws') ∙ ap (λ (y : List ℕ). y ++ drop (room c) ws') (sym s.1.1)
    ∙ ap (λ (y : List ℕ). layout n ++ y) d ∙ ap (λ m. layout n ++ drop m ws) (sym l) in
    w ∙ sym (ap (λ q. words_after q ws) r)
