-- A circuit reads no more bits than it has flops and inputs. So equality over rows of bits of any lengths is equality over those of the right
-- lengths, and the clauses are refutable exactly then.
use Rattle.std.proofs.Common.{◌≡◌, ℕ, ◌<◌, ◌≤◌, Bool, false, ◌↔◌, List, [], ◌∷◌, map, length, get_or, sym, refl, ◌∙◌, arith}
use Rattle.std.specs.List.{AllByRecursion}
use Rattle.std.proofs.lemmas.List.{length-map}
use Rattle.circuits.specs.Net.{Net, first}
use Rattle.circuits.proofs.NetsBefore.{length_first, first_whole, get_or_first}
use Rattle.comparisons.specs.Machine.{Any, machine, Bits, FitsPins}
use Rattle.comparisons.specs.Table.{EqualRows}
use Rattle.comparisons.specs.Clauses.{Refutable, pin_literals, given_clauses}
use Rattle.comparisons.proofs.Sequences.{Equal, tabulate, length_tabulate, all_tabulate, all_any, on_list, to_list}
use Rattle.comparisons.proofs.Sized.{Sized}
use Rattle.comparisons.proofs.Satisfied.{joined_results, split_results, same_run, fits_move, clauses_total}

module _ (inputs flops outs : ℕ) (pins : List ℕ) where
  to_lists : (left right : List Net) → length left ≡ length right
      → Equal (FitsPins pins) (map machine left) (map machine right) → EqualRows (record { inputs = inputs; flops = flops; pins = pins; left = left; right = right })
  to_lists left right l equal s (n, p) ws m a =
      to_list [] (FitsPins pins) Any (map machine left) (map machine right) (length-map left machine ∙ l ∙ sym (length-map right machine)) equal s p ws m
      (all_any ws)

  from_lists : (left right : List Net) → AllByRecursion (Sized inputs flops outs) left → AllByRecursion (Sized inputs flops outs) right → length left ≡ length right → length pins ≤ flops
      → 0 < length left → EqualRows (record { inputs = inputs; flops = flops; pins = pins; left = left; right = right }) → Equal (FitsPins pins) (map machine left) (map machine right)
  from_lists left right fl fr l size some equal s p ws =
      let L = map machine left in
      let R = map machine right in
      let n = length L in
      let x = first false flops s in
      let us : ℕ → List Bool = λ t. first false inputs (ws t) in
      let bit : (j : ℕ) → j < flops → get_or s j false ≡ get_or x j false = λ j b. sym (get_or_first false flops s j b) in
      let (o, f) = equal x (length_first false flops s, fits_move pins flops size (λ j. get_or s j false) (λ j. get_or x j false) bit p)
      (tabulate n us) (length_tabulate n us) (all_tabulate (Bits inputs) n us (λ t b. length_first false inputs (ws t))) in
      let a = on_list L x n refl us in
      let b = on_list R x n (length-map left machine ∙ l ∙ sym (length-map right machine)) us in
      let same : (row : List Net) → AllByRecursion (Sized inputs flops outs) row → 0 < length row → _
      = λ row fits m. (same_run inputs flops outs row fits m s x ws us (sym (first_whole false flops x (length_first false flops s)))
      (λ t b. sym (first_whole false inputs (us t) (length_first false inputs (ws t))))).1 in
      split_results inputs flops outs left right fl fr l s s ws refl
      (same left fl some ∙ joined_results left right x x us l (a.0 ∙ o ∙ sym b.0) (a.1 ∙ f ∙ sym b.1) ∙ sym (same right fr (omega arith)))

pub lengths_agree : (inputs flops outs : ℕ) (pins : List ℕ) (left right : List Net)
    → AllByRecursion (Sized inputs flops outs) left → AllByRecursion (Sized inputs flops outs) right → length left ≡ length right → length pins ≤ flops
    → Equal (FitsPins pins) (map machine left) (map machine right) ↔ EqualRows (record { inputs = inputs; flops = flops; pins = pins; left = left; right = right })
lengths_agree inputs flops outs pins [] [] fl fr l size = (to_lists inputs flops outs pins [] [] l, λ equal s p ws. (refl, refl))
lengths_agree inputs flops outs pins [] (b ∷ right) fl fr l size = absurd (omega arith)
lengths_agree inputs flops outs pins (a ∷ left) right fl fr l size =
    (to_lists inputs flops outs pins (a ∷ left) right l, from_lists inputs flops outs pins (a ∷ left) right fl fr l size (omega arith))

pub clauses_sound : (inputs flops outs : ℕ) (pins : List ℕ) (left right : List Net)
    → AllByRecursion (Sized inputs flops outs) left → AllByRecursion (Sized inputs flops outs) right → length left ≡ length right → length pins ≤ flops
    → Refutable (given_clauses inputs flops (pin_literals pins 2) left right)
    ↔ EqualRows (record { inputs = inputs; flops = flops; pins = pins; left = left; right = right })
clauses_sound inputs flops outs pins left right fl fr l size =
    let total = clauses_total inputs flops outs pins left right fl fr l size in
    let bridge = lengths_agree inputs flops outs pins left right fl fr l size in
    (λ r. bridge.0 (total.0 r), λ e. total.1 (bridge.1 e))
