-- An accepted text begins with a written form of the circuit that it is read as.
use Rattle.std.proofs.Common.{◌≡◌, ℕ, zero, suc, ◌+◌, ◌<◌, ◌≤◌, Bool, true, not, leb, List, [], ◌∷◌, ◌++◌, length, get_or, is_some, None, Ok, codes, Result, sym, ap, ◌∙◌, subst, append_assoc, arith}
use Rattle.std.proofs.ByRecursion.{All-from_get_or, All-map}
use Rattle.std.proofs.lemmas.List.{get_or-map, length-map}
use Rattle.std.proofs.lemmas.Bool.{eqb-true, leb-false, ltb-false, or_parts, not-false}
use Rattle.std.specs.List.{range_with_len, flat_map}
use Rattle.std.specs.Option.{option_to_list}
use Rattle.aiger.specs.declared.fault.ReadFault.{ReadFault}
use Rattle.circuits.specs.declared.counts.Counts.{Counts}
use Rattle.aiger.specs.declared.lines.Header.{Header}
use Rattle.aiger.specs.declared.lines.FlopLine.{FlopLine}
use Rattle.aiger.specs.declared.lines.GateLine.{GateLine}
use Rattle.aiger.specs.Lines.{header, single, flop, gate}
use Rattle.circuits.specs.Net.{Net, Bounded, BoundedCounts, top, input_literal, flop_literal, gate_literal, gate_at, next_at, pin_at, room}
use Rattle.aiger.specs.Reading.{each, input_line, flop_line, output_line, gate_line, header_line, net_of, sections, pin, is_third}
use Rattle.aiger.specs.Written.{line, header_text, input_text, flop_text, output_text, gate_text, third_number, text}
use Rattle.aiger.specs.Laws.{AcceptsWritten}
use Rattle.aiger.proofs.Checks.{judged_parts, counts_fit_parts, third_back, pin_in}
use Rattle.aiger.proofs.LineForms.{lines_exact}
use Rattle.aiger.proofs.Texts.{text_ends}
use Rattle.aiger.proofs.Steps.{onward_parts, net_kept, Parts, sections_parts, sections_counts}

-- lines of one kind, where an accepted line was written so and is good
module _ {X : Type 0} (d : X) (read : ℕ → List ℕ → Result (X × List ℕ) ReadFault) (write : X → List ℕ) (Good : ℕ → X → Type 0)
    (one : (i : ℕ) (t u : List ℕ) (x : X) → read i t ≡ Ok (x, u) → (t ≡ write x ++ u) × Good i x) where
  pub record AllRead (a n : ℕ) (t : List ℕ) (xs : List X) (u : List ℕ) : Type 0 where
    pub as_many : length xs ≡ n
    pub good : (k i : ℕ) → k < n → a + k ≡ i → Good i (get_or xs k d)
    -- any text that has the lines so
    pub written : (f : ℕ → List ℕ) → ((k i : ℕ) → k < n → a + k ≡ i → f i ≡ write (get_or xs k d)) → t ≡ flat_map f (range_with_len a n) ++ u

  all_read_more : (a n : ℕ) (t v u : List ℕ) (x : X) (xs : List X) → (t ≡ write x ++ v) × Good a x → AllRead (a + 1) n v xs u
      → AllRead a (suc n) t (x ∷ xs) u
  all_read_more a n t v u x xs w r = record {
    as_many = ap suc r.as_many;
    good = λ k i l e. good_at k i l e;
    written = λ f h.
        let o = h 0 a (omega arith) (omega arith) in
        let q = r.written f (λ k i l e. h (suc k) i (omega arith) (omega arith)) in
        w.0 ∙ ap (λ (s : List ℕ). s ++ v) (sym o) ∙ ap (λ (s : List ℕ). f a ++ s) q ∙ sym (append_assoc (f a) (flat_map f (range_with_len (a + 1) n)) u);
  }
    where
      good_at : (k i : ℕ) → k < suc n → a + k ≡ i → Good i (get_or (x ∷ xs) k d)
      good_at zero i l e = let z : a ≡ i = omega arith in subst (λ (j : ℕ). Good j x) z w.1
      good_at (suc k) i l e = r.good k i (omega arith) (omega arith)

  pub all_read : (a n : ℕ) (t : List ℕ) (xs : List X) (u : List ℕ) → each read (range_with_len a n) t ≡ Ok (xs, u) → AllRead a n t xs u
  all_read a zero t xs u e =
      let q : ◌≡◌ {A = List X × List ℕ} ([], t) (xs, u) = cc in
      let p : [] ≡ xs = ap (λ (y : List X × List ℕ). y.0) q in let r : t ≡ u = ap (λ (y : List X × List ℕ). y.1) q in
      record {
        as_many = sym (ap length p);
        good = λ k i l e. absurd (omega arith);
        written = λ f h. r;
      }
  all_read a (suc n) t xs u e =
      let b = onward_parts (read a t) _ (xs, u) e in
      let c = onward_parts (each read (range_with_len (a + 1) n) b.0.1) _ (xs, u) b.1.1 in
      let q : ◌≡◌ {A = List X × List ℕ} (b.0.0 ∷ c.0.0, c.0.1) (xs, u) = cc in
      let p : b.0.0 ∷ c.0.0 ≡ xs = ap (λ (y : List X × List ℕ). y.0) q in
      let r : c.0.1 ≡ u = ap (λ (y : List X × List ℕ). y.1) q in
      let m = all_read_more a n t b.0.1 c.0.1 b.0.0 c.0.0 (one a t b.0.1 b.0.0 b.1.0)
      (all_read (a + 1) n b.0.1 c.0.0 c.0.1 c.1.0) in
      subst (λ (ys : List X). AllRead a (suc n) t ys u) p (subst (λ (s : List ℕ). AllRead a (suc n) t (b.0.0 ∷ c.0.0) s) r m)

abbrev GoodInput : ℕ → ℕ → Type 0
GoodInput i x = x ≡ input_literal i

input_one : (i : ℕ) (t u : List ℕ) (x : ℕ) → input_line i t ≡ Ok (x, u) → (t ≡ line x [] ++ u) × GoodInput i x
input_one i t u x e =
    let j = judged_parts _ _ (single t) _ (x, u) e in
    (((lines_exact.singles t u x).0 j.0).0, eqb-true x (input_literal i) (not-false _ j.1.0))

abbrev GoodFlop : Counts → ℕ → FlopLine → Type 0
GoodFlop c j f = (f.own ≡ flop_literal c j) × (f.next ≤ top c) × (is_third (flop_literal c j) f.third ≡ true)

flop_one : (c : Counts) (j : ℕ) (t u : List ℕ) (f : FlopLine) → flop_line c j t ≡ Ok (f, u)
    → (t ≡ line f.own (f.next ∷ option_to_list f.third) ++ u) × GoodFlop c j f
flop_one c j t u f e =
    let p = judged_parts _ _ (flop t) _ (f, u) e in (
      ((lines_exact.flops t u f).0 p.0).0,
      (eqb-true f.own (flop_literal c j) (not-false _ p.1.0), ltb-false (top c) f.next p.1.1.0, not-false _ p.1.1.1.0),
    )

abbrev GoodOutput : Counts → ℕ → ℕ → Type 0
GoodOutput c j x = x ≤ top c

output_one : (c : Counts) (j : ℕ) (t u : List ℕ) (x : ℕ) → output_line c j t ≡ Ok (x, u) → (t ≡ line x [] ++ u) × GoodOutput c j x
output_one c j t u x e =
    let p = judged_parts _ _ (single t) _ (x, u) e in
    (((lines_exact.singles t u x).0 p.0).0, ltb-false (top c) x p.1.0)

abbrev GoodGate : Counts → ℕ → GateLine → Type 0
GoodGate c i g = (g.own ≡ gate_literal c i) × (g.left < gate_literal c i) × (g.right < gate_literal c i)

gate_one : (c : Counts) (i : ℕ) (t u : List ℕ) (g : GateLine) → gate_line c i t ≡ Ok (g, u)
    → (t ≡ line g.own (g.left ∷ g.right ∷ []) ++ u) × GoodGate c i g
gate_one c i t u g e =
    let p = judged_parts _ _ (gate t) _ (g, u) e in
    let both = or_parts (leb (gate_literal c i) g.left) (leb (gate_literal c i) g.right) p.1.1.0 in (
      ((lines_exact.gates t u g).0 p.0).0,
      (eqb-true g.own (gate_literal c i) (not-false _ p.1.0), leb-false (gate_literal c i) g.left both.0, leb-false (gate_literal c i) g.right both.1),
    )

abbrev no_flop : FlopLine
no_flop = record { own = 0; next = 0; third = None }

abbrev no_gate : GateLine
no_gate = record { own = 0; left = 0; right = 0 }

-- the circuit that accepted lines tell is bounded
bounded_from : (c : Counts) (fs : List FlopLine) (os : List ℕ) (gs : List GateLine) → BoundedCounts c
    → length fs ≡ c.flops → length os ≡ c.outputs → length gs ≡ c.gates
    → ((k i : ℕ) → k < c.flops → 0 + k ≡ i → GoodFlop c i (get_or fs k no_flop))
    → ((k i : ℕ) → k < c.outputs → 0 + k ≡ i → GoodOutput c i (get_or os k 0))
    → ((k i : ℕ) → k < c.gates → 0 + k ≡ i → GoodGate c i (get_or gs k no_gate))
    → Bounded (net_of c fs os gs)
bounded_from c fs os gs b lf lo lg f o g = record {
  counts_in = b;
  operands_are = length-map gs (λ x. (x.left, x.right)) ∙ lg;
  nexts_are = length-map fs (λ x. x.next) ∙ lf;
  pins_are = length-map fs (λ x. pin x.third) ∙ lf;
  outs_are = lo;
  operands_in = λ i l.
      let e : gate_at (net_of c fs os gs) i ≡ ((get_or gs i no_gate).left, (get_or gs i no_gate).right)
      = get_or-map (λ x. (x.left, x.right)) gs i no_gate (0, 0) (omega arith) in
      let h = g i i l (omega arith) in
      subst (λ (p : ℕ × ℕ). (p.0 < gate_literal c i) × (p.1 < gate_literal c i)) (sym e) (h.1, h.2);
  nexts_in = All-map (λ x. x ≤ top c) (λ x. x.next) fs
      (All-from_get_or (λ x. x.next ≤ top c) fs no_flop (λ k l. (f k k (omega arith) (omega arith)).1));
  pins_in = All-map (λ p. p ≤ 2) (λ x. pin x.third) fs (All-from_get_or (λ x. pin x.third ≤ 2) fs no_flop (λ k l. pin_in (get_or fs k no_flop).third));
  outs_in = All-from_get_or (λ x. x ≤ top c) os 0 (λ k l. o k k (omega arith) (omega arith));
}

pub header_accepted : (lent : ℕ) (t u : List ℕ) (h : Header) → header_line lent t ≡ Ok (h, u)
    → BoundedCounts h.counts × (room h.counts ≤ lent) × (t ≡ header_text h.counts ++ u)
header_accepted lent t u h e =
    let p = judged_parts _ _ (header t) _ (h, u) e in
    let k = counts_fit_parts h (not-false _ p.1.0) in
    let s = (lines_exact.headers t u h).0 p.0 in
    let c = h.counts in (
      k.0,
      ltb-false lent (room c) p.1.1.0,
      s.1.0 ∙ ap (λ (v : List ℕ). codes "aag" ++ (32 ∷ v)) s.1.1.0
          ∙ ap (λ m. codes "aag" ++ (32 ∷ (line m (c.inputs ∷ c.flops ∷ c.outputs ∷ c.gates ∷ []) ++ u))) k.1,
    )

abbrev bare_of : List FlopLine → ℕ → Bool
bare_of fs j = not (is_some (get_or fs j no_flop).third)

flop_text_is : (c : Counts) (fs : List FlopLine) (os : List ℕ) (gs : List GateLine) (j : ℕ) → j < length fs → GoodFlop c j (get_or fs j no_flop)
    → flop_text (net_of c fs os gs) (bare_of fs) j
    ≡ line (get_or fs j no_flop).own ((get_or fs j no_flop).next ∷ option_to_list (get_or fs j no_flop).third)
flop_text_is c fs os gs j l g =
    let f = get_or fs j no_flop in
    let n : next_at (net_of c fs os gs) j ≡ f.next = get_or-map (λ x. x.next) fs j no_flop 0 l in
    let p : pin_at (net_of c fs os gs) j ≡ pin f.third = get_or-map (λ x. pin x.third) fs j no_flop 2 l in
    let own = flop_literal c j in
    ap (λ m. line own (m ∷ third_number (bare_of fs j) own (pin_at (net_of c fs os gs) j))) n
    ∙ ap (λ m. line own (f.next ∷ third_number (bare_of fs j) own m)) p
    ∙ ap (λ (ns : List ℕ). line own (f.next ∷ ns)) (third_back own f.third g.2)
    ∙ ap (λ m. line m (f.next ∷ option_to_list f.third)) (sym g.0)

gate_text_is : (c : Counts) (fs : List FlopLine) (os : List ℕ) (gs : List GateLine) (i : ℕ) → i < length gs → GoodGate c i (get_or gs i no_gate)
    → gate_text (net_of c fs os gs) i ≡ line (get_or gs i no_gate).own ((get_or gs i no_gate).left ∷ (get_or gs i no_gate).right ∷ [])
gate_text_is c fs os gs i l g =
    let e : gate_at (net_of c fs os gs) i ≡ ((get_or gs i no_gate).left, (get_or gs i no_gate).right)
    = get_or-map (λ x. (x.left, x.right)) gs i no_gate (0, 0) l in
    ap (λ (p : ℕ × ℕ). line (gate_literal c i) (p.0 ∷ p.1 ∷ [])) e
    ∙ ap (λ m. line m ((get_or gs i no_gate).left ∷ (get_or gs i no_gate).right ∷ [])) (sym g.0)

sections_accepted : (c : Counts) (t rest : List ℕ) (net : Net) → BoundedCounts c → Parts c t net rest
    → Bounded net × ((bare : ℕ → Bool) × (t ≡ flat_map input_text (range_with_len 0 c.inputs) ++ (flat_map (flop_text net bare) (range_with_len 0 c.flops)
    ++ (flat_map (output_text net) (range_with_len 0 c.outputs) ++ (flat_map (gate_text net) (range_with_len 0 c.gates) ++ rest)))))
sections_accepted c t rest net b p =
    let m = net_of c p.fs p.os p.gs in
    let i = all_read 0 input_line (λ x. line x []) GoodInput input_one 0 c.inputs t p.is p.t₁ p.inputs_read in
    let f = all_read no_flop (flop_line c) (λ x. line x.own (x.next ∷ option_to_list x.third)) (GoodFlop c) (flop_one c) 0 c.flops p.t₁ p.fs p.t₂ p.flops_read in
    let o = all_read 0 (output_line c) (λ x. line x []) (GoodOutput c) (output_one c) 0 c.outputs p.t₂ p.os p.t₃ p.outputs_read in
    let g = all_read no_gate (gate_line c) (λ x. line x.own (x.left ∷ x.right ∷ [])) (GoodGate c) (gate_one c) 0 c.gates p.t₃ p.gs rest p.gates_read in
    let lf = f.as_many in let lo = o.as_many in let lg = g.as_many in
    let ti = i.written input_text (λ k j l e. ap (λ x. line x []) (sym (i.good k j l e))) in
    let tf = f.written (flop_text m (bare_of p.fs)) (λ k j l e. let z : k ≡ j = omega arith in
    subst (λ (q : ℕ). flop_text m (bare_of p.fs) q ≡ line (get_or p.fs k no_flop).own ((get_or p.fs k no_flop).next ∷ option_to_list (get_or p.fs k no_flop).third)) z
    (flop_text_is c p.fs p.os p.gs k (omega arith) (f.good k k l (omega arith)))) in
    let to = o.written (output_text m) (λ k j l e. let z : k ≡ j = omega arith in ap (λ q. line (get_or p.os q 0) []) (sym z)) in
    let tg = g.written (gate_text m) (λ k j l e. let z : k ≡ j = omega arith in
    subst (λ (q : ℕ). gate_text m q ≡ line (get_or p.gs k no_gate).own ((get_or p.gs k no_gate).left ∷ (get_or p.gs k no_gate).right ∷ [])) z
    (gate_text_is c p.fs p.os p.gs k (omega arith) (g.good k k l (omega arith)))) in
    let I : List ℕ = flat_map input_text (range_with_len 0 c.inputs) in
    let F : List ℕ = flat_map (flop_text m (bare_of p.fs)) (range_with_len 0 c.flops) in
    let O : List ℕ = flat_map (output_text m) (range_with_len 0 c.outputs) in
    let w : t ≡ I ++ (F ++ (O ++ (flat_map (gate_text m) (range_with_len 0 c.gates) ++ rest)))
    = ti ∙ ap (λ (v : List ℕ). I ++ v) (tf ∙ ap (λ (v : List ℕ). F ++ v) (to ∙ ap (λ (v : List ℕ). O ++ v) tg)) in
    subst (λ (n : Net). Bounded n × ((bare : ℕ → Bool) × (t ≡ flat_map input_text (range_with_len 0 c.inputs) ++ (flat_map (flop_text n bare) (range_with_len 0 c.flops)
    ++ (flat_map (output_text n) (range_with_len 0 c.outputs) ++ (flat_map (gate_text n) (range_with_len 0 c.gates) ++ rest)))))) (sym p.net_is)
    (bounded_from c p.fs p.os p.gs b lf lo lg f.good o.good g.good, (bare_of p.fs, w))

pub accepts_written : (lent : ℕ) (t : List ℕ) → AcceptsWritten lent t
accepts_written lent t net e =
    let a = onward_parts (header_line lent t) _ net e in
    let h = a.0.0 in let u = a.0.1 in
    let s = net_kept (sections h.counts u) net a.1.1 in
    let r = s.0 in
    let p = sections_parts h.counts u net r s.1 in
    let k = header_accepted lent t u h a.1.0 in
    let q = sections_accepted h.counts u r net k.0 p in
    let c : h.counts ≡ net.counts = sym (sections_counts h.counts u net r s.1) in
    let whole : t ≡ header_text h.counts ++ (flat_map input_text (range_with_len 0 h.counts.inputs) ++ (flat_map (flop_text net q.1.0) (range_with_len 0 h.counts.flops)
    ++ (flat_map (output_text net) (range_with_len 0 h.counts.outputs) ++ (flat_map (gate_text net) (range_with_len 0 h.counts.gates) ++ r))))
    = k.2 ∙ ap (λ (v : List ℕ). header_text h.counts ++ v) q.1.1 in
    let here : t ≡ header_text net.counts ++ (flat_map input_text (range_with_len 0 net.counts.inputs) ++ (flat_map (flop_text net q.1.0) (range_with_len 0 net.counts.flops)
    ++ (flat_map (output_text net) (range_with_len 0 net.counts.outputs) ++ (flat_map (gate_text net) (range_with_len 0 net.counts.gates) ++ r))))
    = subst (λ (d : Counts). t ≡ header_text d ++ (flat_map input_text (range_with_len 0 d.inputs) ++ (flat_map (flop_text net q.1.0) (range_with_len 0 d.flops)
    ++ (flat_map (output_text net) (range_with_len 0 d.outputs) ++ (flat_map (gate_text net) (range_with_len 0 d.gates) ++ r))))) c whole in
    let form : t ≡ text net q.1.0 ++ r = here ∙ sym (text_ends net q.1.0 r) in
    (q.0, (q.1.0, (r, form)), subst (λ (d : Counts). room d ≤ lent) c k.1)
