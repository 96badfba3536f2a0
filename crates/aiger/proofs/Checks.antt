-- A line that is read and passes its checks is accepted, and an accepted line was read and passed them.
use Rattle.std.proofs.Common.{◌≡◌, ℕ, zero, suc, ◌≤◌, Bool, true, false, cond, not, eqb, leb, List, [], ◌∷◌, is_some, Some, None, Ok, Option, Result, sym, refl, ap, ◌∙◌, inl, inr, arith}
use Rattle.std.proofs.lemmas.Bool.{cases_Bool, and_parts, eq-eqb, lt-leb, eqb-true, leb-true, or_cases, or_right, both_ways}
use Rattle.std.specs.Option.{option_to_list}
use Rattle.std.specs.List.{AllByRecursion}
use Rattle.aiger.specs.declared.fault.Refusal.{Refusal}
use Rattle.aiger.specs.declared.fault.ReadFault.{ReadFault}
use Rattle.aiger.specs.declared.lines.Header.{Header}
use Rattle.circuits.specs.Net.{BoundedCounts, in_bounds, last_net}
use Rattle.circuits.proofs.Bounds.{in_bounds_from, in_bounds_parts}
use Rattle.circuits.proofs.Checking.{all_passed}
use Rattle.aiger.specs.Reading.{judged, refused, counts_fit, is_third, pin}
use Rattle.circuits.specs.Checks.{Check, first_due}
use Rattle.aiger.specs.Written.{third_number}

pub passed : {X : Type 0} (k : ℕ) (r : Refusal) (o : Option (X × List ℕ)) (checks : X → List (Check Refusal)) (x : X) (t : List ℕ)
    → o ≡ Some (x, t) → first_due (checks x) ≡ None → judged k r o checks ≡ Ok (x, t)
passed k r o checks x t e f =
    ap (λ q. judged k r q checks) e ∙ ap (λ (q : Option Refusal). elim q [ None ↦ Ok (x, t) | Some g ↦ refused k g ]) f

none_due : {X : Type 0} (k : ℕ) (o : Option Refusal) (p q : X × List ℕ)
    → ◌≡◌ {A = Result (X × List ℕ) ReadFault} (elim o [ None ↦ Ok p | Some r ↦ refused k r ]) (Ok q) → (o ≡ None) × (p ≡ q)
none_due k None p q e = (refl, cc)
none_due k (Some r) p q e = absurd (cc)

pub judged_parts : {X : Type 0} (k : ℕ) (r : Refusal) (o : Option (X × List ℕ)) (checks : X → List (Check Refusal)) (p : X × List ℕ)
    → judged k r o checks ≡ Ok p → (o ≡ Some p) × AllByRecursion (λ c. c.1 ≡ false) (checks p.0)
judged_parts k r None checks p e = absurd (cc)
judged_parts {X = X} k r (Some q) checks p e =
    let n = none_due k (first_due (checks q.0)) q p e in (
      ap (λ (x : X × List ℕ). Some x) n.1,
      all_passed (checks p.0) (sym (ap (λ (x : X × List ℕ). first_due (checks x.0)) n.1) ∙ n.0),
    )

pub counts_fit_from : (h : Header) → BoundedCounts h.counts → h.last ≡ last_net h.counts → counts_fit h ≡ true
counts_fit_from h b e = let i = in_bounds_from h.counts b in let m = eq-eqb h.last (last_net h.counts) e in rw (i, m) refl

pub counts_fit_parts : (h : Header) → counts_fit h ≡ true → BoundedCounts h.counts × (h.last ≡ last_net h.counts)
counts_fit_parts h e =
    let a = and_parts (in_bounds h.counts) (eqb h.last (last_net h.counts)) e in
    (in_bounds_parts h.counts a.0, eqb-true h.last (last_net h.counts) a.1)

-- the third number of a flop's line with this pin
abbrev pub third_of : Bool → ℕ → ℕ → Option ℕ
third_of bare own zero = cond bare None (Some 0)
third_of bare own (suc zero) = Some 1
third_of bare own (suc (suc p)) = Some own

pub third_is : (bare : Bool) (own p : ℕ) → option_to_list (third_of bare own p) ≡ third_number bare own p
third_is true own zero = refl
third_is false own zero = refl
third_is bare own (suc zero) = refl
third_is bare own (suc (suc p)) = refl

pub third_fits : (bare : Bool) (own p : ℕ) → is_third own (third_of bare own p) ≡ true
third_fits true own zero = refl
third_fits false own zero = refl
third_fits bare own (suc zero) = refl
third_fits bare own (suc (suc p)) = or_right (leb own 1) (eqb own own) (eq-eqb own own refl)

pub third_pin : (bare : Bool) (own p : ℕ) → 2 ≤ own → p ≤ 2 → pin (third_of bare own p) ≡ p
third_pin true own zero h k = refl
third_pin false own zero h k = refl
third_pin bare own (suc zero) h k = refl
third_pin bare own (suc (suc p)) h k = let f = lt-leb own 1 (omega arith) in rw f (omega arith)

-- .. and from a third number back to how it is written
pub third_back : (own : ℕ) (r : Option ℕ) → is_third own r ≡ true → third_number (not (is_some r)) own (pin r) ≡ option_to_list r
third_back own None e = refl
third_back own (Some zero) e = refl
third_back own (Some (suc zero)) e = refl
third_back own (Some (suc (suc n))) e =
    let l : leb (suc (suc n)) 1 ≡ false = lt-leb (suc (suc n)) 1 (omega arith) in
    elim (or_cases (leb (suc (suc n)) 1) (eqb (suc (suc n)) own) e) [
      | inl a ↦ absurd (both_ways (leb (suc (suc n)) 1) l a)
      | inr a ↦ let o : suc (suc n) ≡ own = eqb-true (suc (suc n)) own a in
          ap (λ q. third_number false own (cond q (suc (suc n)) 2)) l ∙ ap (λ m. m ∷ []) (sym o)
    ]

pub pin_in : (r : Option ℕ) → pin r ≤ 2
pin_in None = omega arith
pin_in (Some n) = elim (cases_Bool (leb n 1))
    [ inl a ↦ let h = leb-true n 1 a in rw a (omega arith) | inr a ↦ rw a (omega arith) ]
