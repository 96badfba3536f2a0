-- Which line brings on which refusal.
use Rattle.std.proofs.Common.{◌≡◌, ℕ, zero, suc, ◌+◌, ◌<◌, ◌≤◌, true, false, List, [], ◌∷◌, Some, None, Ok, Err, Option, Result, refl, subst, arith}
use Rattle.std.specs.List.{range_with_len, AllByRecursion}
use Rattle.std.proofs.lemmas.Bool.{ltb-true, not-false}
use Rattle.circuits.specs.declared.counts.Counts.{Counts}
use Rattle.aiger.specs.declared.fault.Refusal.{Refusal}
use Rattle.aiger.specs.declared.fault.Refusal.TheVariants.{MalformedHeader, MalformedLine}
use Rattle.aiger.specs.declared.fault.ReadFault.{ReadFault}
use Rattle.aiger.specs.Lines.{header, single, flop, gate}
use Rattle.circuits.specs.Net.{BoundedCounts, room}
use Rattle.aiger.specs.Reading.{judged, refused, onward, each, header_line, input_line, flop_line, output_line, gate_line, sections, reading}
use Rattle.circuits.specs.Checks.{Check, first_due}
use Rattle.aiger.specs.Laws.{Placed, last_line}
use Rattle.aiger.proofs.Accepted.{header_accepted}
use Rattle.aiger.proofs.Checks.{counts_fit_parts}

-- what holds of each refusal that a line may bring on holds of the one it does; a check comes to be told where those before it are not due
abbrev ToldBy : (Refusal → Type 0) → List (Check Refusal) → Type 0
ToldBy P [] = Unit {0}
ToldBy P (c ∷ cs) = (c.1 ≡ true → P c.0) × (c.1 ≡ false → ToldBy P cs)

told_first : (P : Refusal → Type 0) (cs : List (Check Refusal)) (r : Refusal) → first_due cs ≡ Some r → ToldBy P cs → P r
told_first P [] r e h = absurd (cc)
told_first P ((s, true) ∷ cs) r e h = let q : s ≡ r = cc in subst P q (h.0 refl)
told_first P ((s, false) ∷ cs) r e h = told_first P cs r e (h.1 refl)

judged_refused : {X : Type 0} (P : ReadFault → Type 0) (k : ℕ) (m : Refusal) (o : Option (X × List ℕ)) (checks : X → List (Check Refusal)) (f : ReadFault)
    → judged k m o checks ≡ Err f → P (record { refusal = m; line = k })
    → ((x : X) → ToldBy (λ r. P (record { refusal = r; line = k })) (checks x)) → P f
judged_refused P k m None checks f e h g = subst P (cc) h
judged_refused {X = X} P k m (Some p) checks f e h g = by_due (first_due (checks p.0)) refl e
  where
    by_due : (o : Option Refusal) → first_due (checks p.0) ≡ o
        → ◌≡◌ {A = Result (X × List ℕ) ReadFault} (elim o [ None ↦ Ok p | Some r ↦ refused k r ]) (Err f) → P f
    by_due None d q = absurd (cc)
    by_due (Some r) d q = subst P (cc) (told_first (λ s. P (record { refusal = s; line = k })) (checks p.0) r d (g p.0))

onward_refused : {X Y : Type 0} (P : ReadFault → Type 0) (r : Result (X × List ℕ) ReadFault) (go : X → List ℕ → Result Y ReadFault) (f : ReadFault)
    → onward r go ≡ Err f → ((g : ReadFault) → r ≡ Err g → P g) → ((x : X) (u : List ℕ) → r ≡ Ok (x, u) → go x u ≡ Err f → P f) → P f
onward_refused P (Err g) go f e h k = subst P (cc) (h g refl)
onward_refused P (Ok p) go f e h k = k p.0 p.1 refl e

each_refused : {X : Type 0} (P : ReadFault → Type 0) (line : ℕ → List ℕ → Result (X × List ℕ) ReadFault) (a n : ℕ)
    → ((i : ℕ) → a ≤ i → i < a + n → (u : List ℕ) (g : ReadFault) → line i u ≡ Err g → P g)
    → (t : List ℕ) (f : ReadFault) → each line (range_with_len a n) t ≡ Err f → P f
each_refused {X = X} P line a zero h t f e = absurd (cc)
each_refused P line a (suc n) h t f e =
    onward_refused P (line a t) _ f e (λ g q. h a (omega arith) (omega arith) t g q)
    (λ x u _ q. onward_refused P (each line (range_with_len (a + 1) n) u) _ f q
    (λ g s. each_refused P line (a + 1) n (λ i l m. h i (omega arith) (omega arith)) u g s)
    (λ xs v _ s. absurd (cc)))

header_placed : (lent : ℕ) (t : List ℕ) (f : ReadFault) → header_line lent t ≡ Err f → Placed lent f
header_placed lent t f e =
    judged_refused (Placed lent) 1 MalformedHeader (header t) _ f e refl
    (λ h. (
      (λ _. refl),
      (λ fit. (
        (λ few.
            let b = (counts_fit_parts h (not-false _ fit)).0 in
            let l = ltb-true lent (room h.counts) few in
            (refl, omega arith)),
        (λ _. tt),
      )),
    ))

-- a refusal that line k may bring on if it is one of those after the first
abbrev OfLater : ℕ → ℕ → Refusal → Type 0
OfLater lent k r = (2 ≤ k) × (k ≤ last_line) → Placed lent (record { refusal = r; line = k })

line_placed : {X : Type 0} (lent k : ℕ) (o : Option (X × List ℕ)) (checks : X → List (Check Refusal)) → (2 ≤ k) × (k ≤ last_line)
    → ((x : X) → AllByRecursion (λ c. OfLater lent k c.0) (checks x)) → (f : ReadFault) → judged k MalformedLine o checks ≡ Err f → Placed lent f
line_placed lent k o checks place h f e = judged_refused (Placed lent) k MalformedLine o checks f e place (λ x. told (checks x) (h x))
  where
    told : (cs : List (Check Refusal)) → AllByRecursion (λ c. OfLater lent k c.0) cs → ToldBy (λ r. Placed lent (record { refusal = r; line = k })) cs
    told [] h = tt
    told (c ∷ cs) h = ((λ _. h.0 place), (λ _. told cs h.1))

sections_placed : (lent : ℕ) (c : Counts) → BoundedCounts c → (t : List ℕ) (f : ReadFault) → sections c t ≡ Err f → Placed lent f
sections_placed lent c b t f e =
    let P = Placed lent in
    let inputs = each_refused P input_line 0 c.inputs (λ i l m u.
    line_placed lent (2 + i) (single u) _ (omega arith, omega arith) (λ x. ((λ p. p), tt))) in
    let flops = each_refused P (flop_line c) 0 c.flops (λ j l m u.
    line_placed lent (2 + c.inputs + j) (flop u) _ (omega arith, omega arith) (λ x. ((λ p. p), ((λ p. p), ((λ p. p), tt))))) in
    let outputs = each_refused P (output_line c) 0 c.outputs (λ j l m u.
    line_placed lent (2 + c.inputs + c.flops + j) (single u) _ (omega arith, omega arith) (λ x. ((λ p. p), tt))) in
    let gates = each_refused P (gate_line c) 0 c.gates (λ i l m u.
    line_placed lent (2 + c.inputs + c.flops + c.outputs + i) (gate u) _ (omega arith, omega arith) (λ x. ((λ p. p), ((λ p. p), tt)))) in
    onward_refused P (each input_line (range_with_len 0 c.inputs) t) _ f e (inputs t)
    (λ _ u _ e₁. onward_refused P (each (flop_line c) (range_with_len 0 c.flops) u) _ f e₁ (flops u)
    (λ fs v _ e₂. onward_refused P (each (output_line c) (range_with_len 0 c.outputs) v) _ f e₂ (outputs v)
    (λ os w _ e₃. onward_refused P (each (gate_line c) (range_with_len 0 c.gates) w) _ f e₃ (gates w)
    (λ gs x _ e₄. absurd (cc)))))

pub placed : (lent : ℕ) (t : List ℕ) (f : ReadFault) → reading lent t ≡ Err f → Placed lent f
placed lent t f e =
    onward_refused (Placed lent) (header_line lent t) _ f e (header_placed lent t)
    (λ h u s q. onward_refused (Placed lent) (sections h.counts u) _ f q
    (sections_placed lent h.counts (header_accepted lent t u h s).0 u)
    (λ net v _ z. absurd (cc)))
