-- The lines of each kind: what is written is read, and what is read was written.
use Rattle.std.proofs.Common.{◌≡◌, ℕ, ◌^◌, ◌<◌, cond, eqb, List, [], ◌∷◌, ◌++◌, Some, None, codes, decimal, Option, sym, refl, ap, ◌∙◌, subst, inl, inr, append_assoc}
use Rattle.std.proofs.lemmas.Bool.{cases_Bool, eqb-true}
use Rattle.std.specs.Option.{option_to_list}
use Rattle.std.specs.List.{AllByRecursion}
use Rattle.aiger.specs.declared.lines.Header.{Header}
use Rattle.aiger.specs.declared.lines.FlopLine.{FlopLine}
use Rattle.aiger.specs.declared.lines.GateLine.{GateLine}
use Rattle.aiger.specs.Lines.{then, byte, numeral, field, single, third, flop, gate, header}
use Rattle.aiger.specs.Written.{further, line, StartsLine}
use Rattle.aiger.specs.Laws.{LinesExact}
use Rattle.aiger.proofs.Numerals.{numeral_read, numeral_exact}

-- what is written is read

numeral_of_line : (n : ℕ) (ns t : List ℕ) → n < 2 ^ 32 → numeral (line n ns ++ t) ≡ Some (n, further ns ++ t)
numeral_of_line n [] t h = ap numeral (append_assoc (decimal n) (10 ∷ []) t) ∙ numeral_read n 10 t h refl
numeral_of_line n (m ∷ ms) t h = ap numeral (append_assoc (decimal n) (further (m ∷ ms)) t) ∙ numeral_read n 32 ((decimal m ++ further ms) ++ t) h refl

field_of_line : (n : ℕ) (ns t : List ℕ) → n < 2 ^ 32 → field (further (n ∷ ns) ++ t) ≡ Some (n, further ns ++ t)
field_of_line n ns t h = numeral_of_line n ns t h

single_read : (n : ℕ) (t : List ℕ) → n < 2 ^ 32 → single (line n [] ++ t) ≡ Some (n, t)
single_read n t h = let a = numeral_of_line n [] t h in rw a refl

gate_read : (own l r : ℕ) (t : List ℕ) → own < 2 ^ 32 → l < 2 ^ 32 → r < 2 ^ 32
    → gate (line own (l ∷ r ∷ []) ++ t) ≡ Some (record { own = own; left = l; right = r }, t)
gate_read own l r t a b d =
    let p = numeral_of_line own (l ∷ r ∷ []) t a in let q = field_of_line l (r ∷ []) t b in let s = field_of_line r [] t d in rw (p, q, s) refl

third_read : (r : Option ℕ) (t : List ℕ) → AllByRecursion (λ m. m < 2 ^ 32) (option_to_list r) → third (further (option_to_list r) ++ t) ≡ Some (r, t)
third_read None t h = refl
third_read (Some n) t h = let a = field_of_line n [] t h.0 in rw a refl

flop_read : (own n : ℕ) (r : Option ℕ) (t : List ℕ) → own < 2 ^ 32 → n < 2 ^ 32 → AllByRecursion (λ m. m < 2 ^ 32) (option_to_list r)
    → flop (line own (n ∷ option_to_list r) ++ t) ≡ Some (record { own = own; next = n; third = r }, t)
flop_read own n r t a b d =
    let p = numeral_of_line own (n ∷ option_to_list r) t a in let q = field_of_line n (option_to_list r) t b in let s = third_read r t d in rw (p, q, s) refl

header_read : (m i l o a : ℕ) (t : List ℕ) → m < 2 ^ 32 → i < 2 ^ 32 → l < 2 ^ 32 → o < 2 ^ 32 → a < 2 ^ 32
    → header (codes "aag" ++ (32 ∷ (line m (i ∷ l ∷ o ∷ a ∷ []) ++ t)))
    ≡ Some (record { last = m; counts = record { inputs = i; flops = l; gates = a; outputs = o } }, t)
header_read m i l o a t hm hi hl ho ha =
    let p = numeral_of_line m (i ∷ l ∷ o ∷ a ∷ []) t hm in let q = field_of_line i (l ∷ o ∷ a ∷ []) t hi in let r = field_of_line l (o ∷ a ∷ []) t hl in
    let s = field_of_line o (a ∷ []) t ho in let u = field_of_line a [] t ha in rw (p, q, r, s, u) refl

-- what is read was written

then_parts : {X Y : Type 0} (o : Option (X × List ℕ)) (f : X → List ℕ → Option Y) (y : Y) → then o f ≡ Some y
    → (p : X × List ℕ) × ((o ≡ Some p) × (f p.0 p.1 ≡ Some y))
then_parts None f y e = absurd (cc)
then_parts (Some p) f y e = (p, (refl, e))

some_parts : {X : Type 0} (x y : X) (t u : List ℕ) → ◌≡◌ {A = Option (X × List ℕ)} (Some (x, t)) (Some (y, u)) → (x ≡ y) × (t ≡ u)
some_parts {X = X} x y t u e =
    let w : ◌≡◌ {A = X × List ℕ} (x, t) (y, u) = cc in (ap (λ (p : X × List ℕ). p.0) w, ap (λ (p : X × List ℕ). p.1) w)

byte_exact : (b : ℕ) (t : List ℕ) (p : Unit {0} × List ℕ) → byte b t ≡ Some p → t ≡ b ∷ p.1
byte_exact b [] p e = absurd (cc)
byte_exact b (x ∷ t) p e = elim (cases_Bool (eqb x b)) [
  | inl is ↦
      let o : x ≡ b = eqb-true x b is in
      let f : ◌≡◌ {A = Option (Unit {0} × List ℕ)} (Some (tt, t)) (Some p) = sym (ap (λ q. cond q (Some (tt, t)) None) is) ∙ e in
      let q = some_parts tt p.0 t p.1 f in
      let q₁ = q.1 in cc
  | inr no' ↦ let z : byte b (x ∷ t) ≡ None = rw no' refl in absurd (cc)
]

-- u begins with the fields of these numbers and the end of the line, and v follows
abbrev Ends : List ℕ → List ℕ → List ℕ → Type 0
Ends u ns v = (u ≡ further ns ++ v) × AllByRecursion (λ m. m < 2 ^ 32) ns

end_exact : (u : List ℕ) (p : Unit {0} × List ℕ) → byte 10 u ≡ Some p → Ends u [] p.1
end_exact u p e = (byte_exact 10 u p e, tt)

line_exact : (t : List ℕ) (p : ℕ × List ℕ) (ns v : List ℕ) → numeral t ≡ Some p → Ends p.1 ns v → StartsLine t p.0 ns v
line_exact t p ns v e h =
    let n = numeral_exact t p.1 p.0 e in
    (n.0 ∙ ap (λ (u : List ℕ). decimal p.0 ++ u) h.0 ∙ sym (append_assoc (decimal p.0) (further ns) v), (n.1, h.1))

spaced_exact : (u : List ℕ) (p : ℕ × List ℕ) (ns v : List ℕ) → field u ≡ Some p → Ends p.1 ns v
    → (t : List ℕ) × ((u ≡ 32 ∷ t) × StartsLine t p.0 ns v)
spaced_exact u p ns v e h =
    let a = then_parts (byte 32 u) (λ _ t. numeral t) p e in
    (a.0.1, (byte_exact 32 u a.0 a.1.0, line_exact a.0.1 p ns v a.1.1 h))

field_exact : (u : List ℕ) (p : ℕ × List ℕ) (ns v : List ℕ) → field u ≡ Some p → Ends p.1 ns v → Ends u (p.0 ∷ ns) v
field_exact u p ns v e h =
    let a = spaced_exact u p ns v e h in (a.1.0 ∙ ap (λ (t : List ℕ). 32 ∷ t) a.1.1.0, a.1.1.1)

single_exact : (t u : List ℕ) (n : ℕ) → single t ≡ Some (n, u) → StartsLine t n [] u
single_exact t u n e =
    let a = then_parts (numeral t) _ (n, u) e in
    let b = then_parts (byte 10 a.0.1) _ (n, u) a.1.1 in
    let q = some_parts a.0.0 n b.0.1 u b.1.1 in
    let r = line_exact t a.0 [] b.0.1 a.1.0 (end_exact a.0.1 b.0 b.1.0) in
    let q₀ = q.0 in let q₁ = q.1 in
    subst (λ (m : ℕ). StartsLine t m [] u) q₀ (subst (λ (v : List ℕ). StartsLine t a.0.0 [] v) q₁ r)

gate_exact : (t u : List ℕ) (g : GateLine) → gate t ≡ Some (g, u) → StartsLine t g.own (g.left ∷ g.right ∷ []) u
gate_exact t u g e =
    let a = then_parts (numeral t) _ (g, u) e in
    let b = then_parts (field a.0.1) _ (g, u) a.1.1 in
    let d = then_parts (field b.0.1) _ (g, u) b.1.1 in
    let f = then_parts (byte 10 d.0.1) _ (g, u) d.1.1 in
    let q = some_parts _ g f.0.1 u f.1.1 in
    let r = line_exact t a.0 (b.0.0 ∷ d.0.0 ∷ []) f.0.1 a.1.0
    (field_exact a.0.1 b.0 (d.0.0 ∷ []) f.0.1 b.1.0
    (field_exact b.0.1 d.0 [] f.0.1 d.1.0 (end_exact d.0.1 f.0 f.1.0))) in
    let q₀ = q.0 in let q₁ = q.1 in
    subst (λ (m : GateLine). StartsLine t m.own (m.left ∷ m.right ∷ []) u) q₀
    (subst (λ (v : List ℕ). StartsLine t a.0.0 (b.0.0 ∷ d.0.0 ∷ []) v) q₁ r)

third_exact : (t : List ℕ) (p : Option ℕ × List ℕ) → third t ≡ Some p → Ends t (option_to_list p.0) p.1
third_exact t p e = by_first (byte 10 t) refl e
  where
    by_first : (o : Option (Unit {0} × List ℕ)) → byte 10 t ≡ o
        → (elim o [ Some q ↦ Some (None, q.1) | None ↦ then (field t) (λ a u. then (byte 10 u) (λ _ v. Some (Some a, v))) ]) ≡ Some p
        → Ends t (option_to_list p.0) p.1
    by_first (Some q) b h =
        let r = some_parts None p.0 q.1 p.1 h in
        let r₀ = r.0 in let r₁ = r.1 in
        subst (λ (m : Option ℕ). Ends t (option_to_list m) p.1) r₀ (subst (λ (v : List ℕ). Ends t [] v) r₁ (end_exact t q b))
    by_first None b h =
        let a = then_parts (field t) _ p h in
        let d = then_parts (byte 10 a.0.1) _ p a.1.1 in
        let r = some_parts (Some a.0.0) p.0 d.0.1 p.1 d.1.1 in
        let r₀ = r.0 in let r₁ = r.1 in
        let k = field_exact t a.0 [] d.0.1 a.1.0 (end_exact a.0.1 d.0 d.1.0) in
        subst (λ (m : Option ℕ). Ends t (option_to_list m) p.1) r₀ (subst (λ (v : List ℕ). Ends t (a.0.0 ∷ []) v) r₁ k)

flop_exact : (t u : List ℕ) (f : FlopLine) → flop t ≡ Some (f, u) → StartsLine t f.own (f.next ∷ option_to_list f.third) u
flop_exact t u f e =
    let a = then_parts (numeral t) _ (f, u) e in
    let b = then_parts (field a.0.1) _ (f, u) a.1.1 in
    let d = then_parts (third b.0.1) _ (f, u) b.1.1 in
    let q = some_parts _ f d.0.1 u d.1.1 in
    let r = line_exact t a.0 (b.0.0 ∷ option_to_list d.0.0) d.0.1 a.1.0
    (field_exact a.0.1 b.0 (option_to_list d.0.0) d.0.1 b.1.0 (third_exact b.0.1 d.0 d.1.0)) in
    let q₀ = q.0 in let q₁ = q.1 in
    subst (λ (m : FlopLine). StartsLine t m.own (m.next ∷ option_to_list m.third) u) q₀
    (subst (λ (v : List ℕ). StartsLine t a.0.0 (b.0.0 ∷ option_to_list d.0.0) v) q₁ r)

-- a text that begins with line 1 of this header
abbrev StartsHeader : List ℕ → Header → List ℕ → Type 0
StartsHeader t h u = (tail : List ℕ) × ((t ≡ codes "aag" ++ (32 ∷ tail))
    × StartsLine tail h.last (h.counts.inputs ∷ h.counts.flops ∷ h.counts.outputs ∷ h.counts.gates ∷ []) u)

-- line 1 from its third count on, and from its last net on
abbrev from_flops : ℕ → ℕ → List ℕ → Option (Header × List ℕ)
from_flops m i t = then (field t) (λ l w. then (field w) (λ o x. then (field x) (λ a y. then (byte 10 y) (λ _ z.
    Some (record { last = m; counts = record { inputs = i; flops = l; gates = a; outputs = o } }, z)))))

abbrev from_last : List ℕ → Option (Header × List ℕ)
from_last t = then (field t) (λ m u. then (field u) (λ i v. from_flops m i v))

abbrev EndsFlops : ℕ → ℕ → List ℕ → Header → List ℕ → Type 0
EndsFlops m i t h u = (h.last ≡ m) × (h.counts.inputs ≡ i) × Ends t (h.counts.flops ∷ h.counts.outputs ∷ h.counts.gates ∷ []) u

flops_exact : (m i : ℕ) (t u : List ℕ) (h : Header) → from_flops m i t ≡ Some (h, u) → EndsFlops m i t h u
flops_exact m i t u h e =
    let l = then_parts (field t) _ (h, u) e in
    let o = then_parts (field l.0.1) _ (h, u) l.1.1 in
    let a = then_parts (field o.0.1) _ (h, u) o.1.1 in
    let z = then_parts (byte 10 a.0.1) _ (h, u) a.1.1 in
    let q = some_parts _ h z.0.1 u z.1.1 in
    let r = field_exact t l.0 (o.0.0 ∷ a.0.0 ∷ []) z.0.1 l.1.0
    (field_exact l.0.1 o.0 (a.0.0 ∷ []) z.0.1 o.1.0
    (field_exact o.0.1 a.0 [] z.0.1 a.1.0 (end_exact a.0.1 z.0 z.1.0))) in
    subst (λ (k : Header). EndsFlops m i t k u) q.0 (refl, refl, subst (λ (v : List ℕ). Ends t (l.0.0 ∷ o.0.0 ∷ a.0.0 ∷ []) v) q.1 r)

abbrev EndsLast : List ℕ → Header → List ℕ → Type 0
EndsLast t h u = (tail : List ℕ) × ((t ≡ 32 ∷ tail)
    × StartsLine tail h.last (h.counts.inputs ∷ h.counts.flops ∷ h.counts.outputs ∷ h.counts.gates ∷ []) u)

last_exact : (t u : List ℕ) (h : Header) → from_last t ≡ Some (h, u) → EndsLast t h u
last_exact t u h e =
    let m = then_parts (field t) _ (h, u) e in
    let i = then_parts (field m.0.1) _ (h, u) m.1.1 in
    let f = flops_exact m.0.0 i.0.0 i.0.1 u h i.1.1 in
    let ns : List ℕ = h.counts.flops ∷ h.counts.outputs ∷ h.counts.gates ∷ [] in
    let r = field_exact m.0.1 i.0 ns u i.1.0 f.2 in
    let s = spaced_exact t m.0 (i.0.0 ∷ ns) u m.1.0 r in (
      s.0,
      (
        s.1.0,
        subst (λ (k : ℕ). StartsLine s.0 k (h.counts.inputs ∷ ns) u) (sym f.0)
            (subst (λ (k : ℕ). StartsLine s.0 m.0.0 (k ∷ ns) u) (sym f.1) s.1.1),
      ),
    )

header_exact : (t u : List ℕ) (h : Header) → header t ≡ Some (h, u) → StartsHeader t h u
header_exact t u h e =
    let x = then_parts (byte 97 t) _ (h, u) e in
    let y = then_parts (byte 97 x.0.1) _ (h, u) x.1.1 in
    let z = then_parts (byte 103 y.0.1) (λ _ v. from_last v) (h, u) y.1.1 in
    let r = last_exact z.0.1 u h z.1.1 in (
      r.0,
      (
        byte_exact 97 t x.0 x.1.0 ∙ ap (λ (v : List ℕ). 97 ∷ v) (byte_exact 97 x.0.1 y.0 y.1.0
            ∙ ap (λ (v : List ℕ). 97 ∷ v) (byte_exact 103 y.0.1 z.0 z.1.0 ∙ ap (λ (v : List ℕ). 103 ∷ v) r.1.0)),
        r.1.1,
      ),
    )

pub lines_exact : LinesExact
lines_exact = record {
  headers = λ t u h. (
    header_exact t u h,
    λ s.
        ap header (s.1.0 ∙ ap (λ (v : List ℕ). codes "aag" ++ (32 ∷ v)) s.1.1.0)
        ∙ header_read h.last h.counts.inputs h.counts.flops h.counts.outputs h.counts.gates u
        s.1.1.1.0 s.1.1.1.1.0 s.1.1.1.1.1.0 s.1.1.1.1.1.1.0 s.1.1.1.1.1.1.1.0,
  );
  singles = λ t u n. (single_exact t u n, λ s. ap single s.0 ∙ single_read n u s.1.0);
  flops = λ t u f. (flop_exact t u f, λ s. ap flop s.0 ∙ flop_read f.own f.next f.third u s.1.0 s.1.1.0 s.1.1.1);
  gates = λ t u g. (gate_exact t u g, λ s. ap gate s.0 ∙ gate_read g.own g.left g.right u s.1.0 s.1.1.0 s.1.1.1.0);
}
