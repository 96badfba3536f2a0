-- The clauses of two rows can all hold exactly where the rows differ.
use Rattle.std.proofs.Common.{◌≡◌, ℕ, zero, suc, ◌+◌, ◌-◌, ◌*◌, ◌/◌, ◌%◌, ◌<◌, ◌≤◌, Bool, true, false, not, ◌&&◌, ◌||◌, ◌↔◌, List, [], ◌∷◌, ◌++◌, map, length, get_or, sym, refl, ap, ◌∙◌, subst, ap₂, inl, inr, mul-le-mul_right, arith, length-append}
use Rattle.std.proofs.Math.ListN.{get_or-map}
use Rattle.std.specs.List.{range_with_len, AllByRecursion}
use Rattle.std.proofs.ByRecursion.{All-append}
use Rattle.std.proofs.lemmas.List.{map-append, length-map, get_or_append_left, get_or_past}
use Rattle.std.proofs.lemmas.Bool.Decides.{nat_tests}
use Rattle.std.proofs.lemmas.Bool.{false≢true, false_from_ne_true, or_cases, or_parts, cases_lt}
use Rattle.std.proofs.Math.Bool.{or-false}
use Rattle.circuits.specs.declared.counts.Counts.{Counts}
use Rattle.circuits.specs.Net.{Net, first, turned, before, value, gate_values, values}
use Rattle.circuits.proofs.Mapped.{map_twice}
use Rattle.circuits.proofs.NetsBefore.{length_first, first_whole, get_or_first}
use Rattle.circuits.proofs.CycleValues.{length_gate_values}
use Rattle.comparisons.specs.Machine.{machine, Held, FitsPins}
use Rattle.comparisons.specs.Clauses.{negated, holds, holds_in, Satisfies, Refutable, off, named, vars, gate_clauses, names, next_names, row_clauses, row_results, gate_count, difference_clauses, pin_literals, start, input, left_gates, right_gates, given_clauses}
use Rattle.comparisons.proofs.Repeats.{all_parts}
use Rattle.comparisons.proofs.Sequences.{rest, outputs, final, Equal}
use Rattle.comparisons.proofs.Sized.{Sized}

-- literals

turned_back : (r : ℕ) (b : Bool) → r < 2 → turned not (1 - r) b ≡ not (turned not r b)
turned_back zero b l = refl
turned_back (suc zero) true l = refl
turned_back (suc zero) false l = refl
turned_back (suc (suc r)) b l = absurd (omega arith)

module _ (v : ℕ → Bool) where
  pub holds_var : (z : ℕ) → holds v (2 * z) ≡ v z
  holds_var z =
      let r : (2 * z) % 2 ≡ 0 = omega arith in
      let q : (2 * z) / 2 ≡ z = omega arith in
      rw (r, q)

  pub holds_not_var : (z : ℕ) → holds v (2 * z + 1) ≡ not (v z)
  holds_not_var z =
      let r : (2 * z + 1) % 2 ≡ 1 = omega arith in
      let q : (2 * z + 1) / 2 ≡ z = omega arith in
      rw (r, q)

  pub holds_negated : (l : ℕ) → holds v (negated l) ≡ not (holds v l)
  holds_negated l =
      let r : negated l % 2 ≡ 1 - l % 2 = omega arith in
      let q : negated l / 2 ≡ l / 2 = omega arith in
      rw (r, q) (turned_back (l % 2) (v (l / 2)) (omega arith))

  holds_turned : (r l : ℕ) → holds v (turned negated r l) ≡ turned not r (holds v l)
  holds_turned zero l = refl
  holds_turned (suc r) l = holds_negated l

map_first : {X Y : Type 0} (f : X → Y) (d : X) (n : ℕ) (xs : List X) → map f (first d n xs) ≡ first (f d) n (map f xs)
map_first f d n xs =
    map_twice (λ k. get_or (map f xs) k (f d)) f (λ k. get_or xs k d) (λ k. sym (get_or-map f xs k d)) (range_with_len 0 n)

map_before : {X Y : Type 0} (f : X → Y) (d : X) (c : Counts) (s w : List X) → map f (before d c s w) ≡ before (f d) c (map f s) (map f w)
map_before f d c s w =
    rw (map-append f (first d c.inputs w) (first d c.flops s), map_first f d c.inputs w, map_first f d c.flops s)

-- variables z, z + 1, .. have the values xs
abbrev pub Says : (ℕ → Bool) → ℕ → List Bool → Type 0
Says v z [] = Unit {0}
Says v z (x ∷ xs) = (v z ≡ x) × Says v (suc z) xs

module _ (v : ℕ → Bool) where
  says_parts : (z : ℕ) (xs ys : List Bool) → Says v z (xs ++ ys) ↔ (Says v z xs × Says v (z + length xs) ys)
  says_parts z [] ys = let e : z + 0 ≡ z = omega arith in (λ s. (tt, rw e s), λ s. rw e at s.1)
  says_parts z (x ∷ xs) ys =
      let e : z + suc (length xs) ≡ suc z + length xs = omega arith in
      let more = says_parts (suc z) xs ys in
      (λ s. let r = more.0 s.1 in ((s.0, r.0), rw e r.1), λ s. (s.0.0, more.1 (s.0.1, rw e at s.1)))

  pub says_cut : (n z : ℕ) (xs ys : List Bool) → length xs ≡ n → Says v z (xs ++ ys) ↔ (Says v z xs × Says v (z + n) ys)
  says_cut n z xs ys l = subst (λ m. Says v z (xs ++ ys) ↔ (Says v z xs × Says v (z + m) ys)) l (says_parts z xs ys)

  pub vars_say : (n z : ℕ) (xs : List Bool) → length xs ≡ n → Says v z xs → map (holds v) (vars n z) ≡ xs
  vars_say zero z [] l s = refl
  vars_say zero z (x ∷ xs) l s = absurd (omega arith)
  vars_say (suc n) z [] l s = absurd (omega arith)
  vars_say (suc n) z (x ∷ xs) l (e, s) =
      let r = vars_say n (suc z) xs (omega arith) s in
      let h = holds_var v z in cc

-- satisfied

gate_holds : (p x y : Bool) → p ≡ (x && y) → ((not p || (x || false)) ≡ true) × ((not p || (y || false)) ≡ true) × ((p || (not x || (not y || false))) ≡ true)
gate_holds p x y e = grind (arith, nat_tests)

gate_held : (p x y : Bool) → (not p || (x || false)) ≡ true → (not p || (y || false)) ≡ true → (p || (not x || (not y || false))) ≡ true → p ≡ (x && y)
gate_held p x y a b c = grind (arith, nat_tests)

abbrev pub differ : Bool → Bool → Bool
differ true y = not y
differ false y = y

abbrev pub differs : List Bool → List Bool → List Bool
differs [] ys = []
differs (x ∷ xs) [] = []
differs (x ∷ xs) (y ∷ ys) = differ x y ∷ differs xs ys

differ_holds : (p x y : Bool) → p ≡ differ x y
    → ((not p || (x || (y || false))) ≡ true) × ((not p || (not x || (not y || false))) ≡ true) × (p ≡ false → x ≡ y)
differ_holds p x y e = grind (arith, nat_tests)

differ_held : (p x y : Bool) → p ≡ true → (not p || (x || (y || false))) ≡ true → (not p || (not x || (not y || false))) ≡ true → x ≡ y → ⊥
differ_held p x y t a b e = grind (arith, nat_tests)

-- what literals are
abbrev pub h : (ℕ → Bool) → List ℕ → List Bool
h v ls = map (holds v) ls

-- what the gates of a row come to, cycle by cycle
abbrev pub row_values : List Net → List Bool → (ℕ → List Bool) → List Bool
row_values [] s ws = []
row_values (net ∷ row) s ws = gate_values net.operands (before false net.counts s (ws 0)) ++ row_values row ((machine net).next s (ws 0)) (rest ws)

-- its outputs, cycle by cycle, and then its final state
abbrev pub results : List Net → List Bool → (ℕ → List Bool) → List Bool
results [] s ws = s
results (net ∷ row) s ws = (machine net).out s (ws 0) ++ results row ((machine net).next s (ws 0)) (rest ws)

-- v gives variable 1 the value false
module _ (v : ℕ → Bool) (low : v 1 ≡ false) where
  pub named_value : (nets : List ℕ) (x : ℕ) → holds v (named nets x) ≡ value (h v nets) x
  named_value nets x =
      let e : get_or (h v nets) (x / 2) false ≡ holds v (get_or nets (x / 2) off) = ap (get_or (h v nets) (x / 2)) (sym low) ∙ get_or-map (holds v) nets (x / 2) off in
      holds_turned v (x % 2) (get_or nets (x / 2) off) ∙ ap (turned not (x % 2)) (sym e)

  h_named : (nets xs : List ℕ) → h v (map (named nets) xs) ≡ map (value (h v nets)) xs
  h_named nets [] = refl
  h_named nets (x ∷ xs) = let e = named_value nets x in let r = h_named nets xs in cc

  pub h_before : (net : Net) (s w : List ℕ) → h v (before off net.counts s w) ≡ before false net.counts (h v s) (h v w)
  h_before net s w = map_before (holds v) off net.counts s w ∙ ap (λ d. before d net.counts (h v s) (h v w)) low

  -- the gates' clauses say what the gates' variables are
  gates_say : (gates : List (ℕ × ℕ)) (nets : List ℕ) (z : ℕ)
      → Satisfies v (gate_clauses gates nets z) ↔ Says v z (gate_values gates (h v nets))
  gates_say [] nets z = (λ s. tt, λ s. tt)
  gates_say ((x, y) ∷ gates) nets z =
      let zn = holds_not_var v z in
      let zp = holds_var v z in
      let a = named_value nets x in
      let b = named_value nets y in
      let an = holds_negated v (named nets x) in
      let bn = holds_negated v (named nets y) in
      let X = value (h v nets) x in
      let Y = value (h v nets) y in
      let more = gates_say gates (nets ++ 2 * z ∷ []) (suc z) in
      let longer : v z ≡ (X && Y) → h v (nets ++ 2 * z ∷ []) ≡ h v nets ++ (X && Y) ∷ []
      = λ e. map-append (holds v) nets (2 * z ∷ []) ∙ ap (λ g. h v nets ++ g ∷ []) (zp ∙ e) in (
        λ s.
            let e : v z ≡ (X && Y) = gate_held (v z) X Y (cc s.0) (cc s.1.0) (cc s.1.1.0) in
            (e, rw (longer e) at (more.0 s.1.1.1)),
        λ s.
            let g = gate_holds (v z) X Y s.0 in
            (cc g.0, (cc g.1, (cc g.2, more.1 (rw (longer s.0) s.1)))),
      )

  cycle_say : (net : Net) (s w : List ℕ) (z : ℕ)
      → Satisfies v (gate_clauses net.operands (before off net.counts s w) z) ↔ Says v z (gate_values net.operands (before false net.counts (h v s) (h v w)))
  cycle_say net s w z =
      subst (λ nets. Satisfies v (gate_clauses net.operands (before off net.counts s w) z) ↔ Says v z (gate_values net.operands nets))
      (h_before net s w) (gates_say net.operands (before off net.counts s w) z)

  -- in a cycle whose gates' variables are what they should be, every literal is
  pub cycle_gives : (net : Net) (s w : List ℕ) (z : ℕ) → Says v z (gate_values net.operands (before false net.counts (h v s) (h v w)))
      → (xs : List ℕ) → h v (map (named (names net s w z)) xs) ≡ map (value (values net (h v s) (h v w))) xs
  cycle_gives net s w z said xs =
      let gs = gate_values net.operands (before false net.counts (h v s) (h v w)) in
      let told = vars_say v (length net.operands) z gs (length_gate_values net.operands (before false net.counts (h v s) (h v w))) said in
      let all : h v (names net s w z) ≡ values net (h v s) (h v w)
      = map-append (holds v) (before off net.counts s w) (vars (length net.operands) z)
      ∙ ap (λ r. h v (before off net.counts s w) ++ r) told ∙ ap (λ r. r ++ gs) (h_before net s w) in
      h_named (names net s w z) xs ∙ ap (λ nets. map (value nets) xs) all

  -- the clauses of a row say what the variables of its gates are
  pub row_say : (row : List Net) (s : List ℕ) (ws : ℕ → List ℕ) (z : ℕ)
      → Satisfies v (row_clauses row s ws z) ↔ Says v z (row_values row (h v s) (λ t. h v (ws t)))
  row_say [] s ws z = (λ s. tt, λ s. tt)
  row_say (net ∷ row) s ws z =
      let gates = net.operands in
      let s' = next_names net s (ws 0) z in
      let x' = (machine net).next (h v s) (h v (ws 0)) in
      let now = cycle_say net s (ws 0) z in
      let gs = gate_values gates (before false net.counts (h v s) (h v (ws 0))) in
      let parts = says_cut v (length gates) z gs (row_values row x' (λ t. h v (ws (suc t)))) (length_gate_values gates (before false net.counts (h v s) (h v (ws 0)))) in
      let more : Says v z gs → Satisfies v (row_clauses row s' (rest ws) (z + length gates)) ↔ Says v (z + length gates) (row_values row x' (λ t. h v (ws (suc t))))
      = λ said.
      subst (λ x. Satisfies v (row_clauses row s' (rest ws) (z + length gates)) ↔ Says v (z + length gates) (row_values row x (λ t. h v (ws (suc t)))))
      (cycle_gives net s (ws 0) z said net.nexts) (row_say row s' (rest ws) (z + length gates)) in (
        λ sat.
            let (here, then) = all_parts (λ c. holds_in v c ≡ true) (gate_clauses gates (before off net.counts s (ws 0)) z) (row_clauses row s' (rest ws) (z + length gates)) sat in
            let said = now.0 here in parts.1 (said, (more said).0 then),
        λ all.
            let (said, then) = parts.0 all in
            All-append (λ c. holds_in v c ≡ true) (gate_clauses gates (before off net.counts s (ws 0)) z) (row_clauses row s' (rest ws) (z + length gates))
            (now.1 said) ((more said).1 then),
      )

  -- .. and then its results are what the circuits give
  pub row_gives : (row : List Net) (s : List ℕ) (ws : ℕ → List ℕ) (z : ℕ)
      → Says v z (row_values row (h v s) (λ t. h v (ws t))) → h v (row_results row s ws z) ≡ results row (h v s) (λ t. h v (ws t))
  row_gives [] s ws z said = refl
  row_gives (net ∷ row) s ws z said =
      let gates = net.operands in
      let s' = next_names net s (ws 0) z in
      let x' = (machine net).next (h v s) (h v (ws 0)) in
      let gs = gate_values gates (before false net.counts (h v s) (h v (ws 0))) in
      let (now, then) = (says_cut v (length gates) z gs (row_values row x' (λ t. h v (ws (suc t)))) (length_gate_values gates (before false net.counts (h v s) (h v (ws 0))))).0 said in
      let next : h v s' ≡ x' = cycle_gives net s (ws 0) z now net.nexts in
      let more = row_gives row s' (rest ws) (z + length gates) (subst (λ x. Says v (z + length gates) (row_values row x (λ t. h v (ws (suc t))))) (sym next) then) in
      map-append (holds v) (map (named (names net s (ws 0) z)) net.outs) (row_results row s' (rest ws) (z + length gates))
      ∙ ap₂ ◌++◌ (cycle_gives net s (ws 0) z now net.outs) (more ∙ ap (λ x. results row x (λ t. h v (ws (suc t)))) next)

  -- differences

  pub differ_refuted : (us ws : List ℕ) (d : ℕ) → Satisfies v (difference_clauses us ws d)
      → holds_in v (vars (length us) d) ≡ true → h v us ≡ h v ws → ⊥
  differ_refuted [] ws d sat some same = false≢true some
  differ_refuted (u ∷ us) [] d sat some same = absurd (omega (arith, ap length same))
  differ_refuted (u ∷ us) (w ∷ ws) d (one, (two, sat)) some same =
      let dp = holds_var v d in
      let dn = holds_not_var v d in
      let un = holds_negated v u in
      let wn = holds_negated v w in
      let same_here : holds v u ≡ holds v w = cc in
      elim (or_cases (holds v (2 * d)) (holds_in v (vars (length us) (suc d))) some) [
        | inl e ↦ differ_held (v d) (holds v u) (holds v w) (sym dp ∙ e) (cc) (cc) same_here
        | inr e ↦ differ_refuted us ws (suc d) sat e (cc)
      ]

  pub differ_made : (us ws : List ℕ) (d : ℕ) → length us ≡ length ws → Says v d (differs (h v us) (h v ws))
      → Satisfies v (difference_clauses us ws d) × (holds_in v (vars (length us) d) ≡ false → h v us ≡ h v ws)
  differ_made [] [] d l said = (tt, λ none. refl)
  differ_made [] (w ∷ ws) d l said = absurd (omega arith)
  differ_made (u ∷ us) [] d l said = absurd (omega arith)
  differ_made (u ∷ us) (w ∷ ws) d l (e, said) =
      let dp = holds_var v d in
      let dn = holds_not_var v d in
      let un = holds_negated v u in
      let wn = holds_negated v w in
      let more = differ_made us ws (suc d) (omega arith) said in
      let made = differ_holds (v d) (holds v u) (holds v w) e in (
        (cc made.0, (cc made.1, more.0)),
        λ none.
            let (here, then) = or_parts (holds v (2 * d)) (holds_in v (vars (length us) (suc d))) none in
            let a = made.2 (sym dp ∙ here) in
            let r = more.1 then in cc,
      )

-- results, and outputs with the final state

pub append_parts : {A : Type 0} (a c b d : List A) → length a ≡ length c → a ++ b ≡ c ++ d → (a ≡ c) × (b ≡ d)
append_parts [] [] b d l e = (refl, e)
append_parts [] (y ∷ c) b d l e = absurd (omega arith)
append_parts (x ∷ a) [] b d l e = absurd (omega arith)
append_parts (x ∷ a) (y ∷ c) b d l e =
    let more = append_parts a c b d (omega arith) (cc) in
    let head : x ≡ y = cc in (ap₂ ◌∷◌ head more.0, more.1)

pub joined_results : (left right : List Net) (x y : List Bool) (ws : ℕ → List Bool) → length left ≡ length right
    → outputs (map machine left) x ws ≡ outputs (map machine right) y ws → final (map machine left) x ws ≡ final (map machine right) y ws
    → results left x ws ≡ results right y ws
joined_results [] [] x y ws l o f = f
joined_results [] (b ∷ right) x y ws l o f = absurd (omega arith)
joined_results (a ∷ left) [] x y ws l o f = absurd (omega arith)
joined_results (a ∷ left) (b ∷ right) x y ws l o f =
    let more = joined_results left right ((machine a).next x (ws 0)) ((machine b).next y (ws 0)) (rest ws) (omega arith) (cc) f in
    let head : (machine a).out x (ws 0) ≡ (machine b).out y (ws 0) = cc in ap₂ ◌++◌ head more

module _ (inputs flops outs : ℕ) where
  pub split_results : (left right : List Net) → AllByRecursion (Sized inputs flops outs) left → AllByRecursion (Sized inputs flops outs) right → length left ≡ length right
      → (x y : List Bool) (ws : ℕ → List Bool) → length x ≡ length y → results left x ws ≡ results right y ws
      → (outputs (map machine left) x ws ≡ outputs (map machine right) y ws) × (final (map machine left) x ws ≡ final (map machine right) y ws)
  split_results [] [] fl fr l x y ws n e = (refl, e)
  split_results [] (b ∷ right) fl fr l x y ws n e = absurd (omega arith)
  split_results (a ∷ left) [] fl fr l x y ws n e = absurd (omega arith)
  split_results (a ∷ left) (b ∷ right) (fa, fl) (fb, fr) l x y ws n e =
      let x' = (machine a).next x (ws 0) in
      let y' = (machine b).next y (ws 0) in
      let lo : length ((machine a).out x (ws 0)) ≡ length ((machine b).out y (ws 0))
      = length-map a.outs (value (values a x (ws 0))) ∙ fa.outs_are ∙ sym fb.outs_are ∙ sym (length-map b.outs (value (values b y (ws 0)))) in
      let ln : length x' ≡ length y'
      = length-map a.nexts (value (values a x (ws 0))) ∙ fa.nexts_are ∙ sym fb.nexts_are ∙ sym (length-map b.nexts (value (values b y (ws 0)))) in
      let (here, then) = append_parts ((machine a).out x (ws 0)) ((machine b).out y (ws 0)) (results left x' (rest ws)) (results right y' (rest ws)) lo e in
      let more = split_results left right fl fr (omega arith) x' y' (rest ws) ln then in
      (ap₂ ◌∷◌ here more.0, more.1)

  before_same : (net : Net) → Sized inputs flops outs net → (x y w u : List Bool)
      → first false flops x ≡ first false flops y → first false inputs w ≡ first false inputs u → before false net.counts x w ≡ before false net.counts y u
  before_same net fits x y w u s i = rw (fits.inputs_are, fits.flops_are, s, i)

  -- a row reads no more of its start state and inputs than their bits, and of the inputs only those of its own cycles
  pub same_run : (row : List Net) → AllByRecursion (Sized inputs flops outs) row → 0 < length row → (x y : List Bool) (ws us : ℕ → List Bool)
      → first false flops x ≡ first false flops y
      → ((t : ℕ) → t < length row → first false inputs (ws t) ≡ first false inputs (us t))
      → (row_values row x ws ≡ row_values row y us) × (results row x ws ≡ results row y us)
  same_run [] fits some x y ws us s i = absurd (omega arith)
  same_run (net ∷ []) (f, fits) some x y ws us s i =
      let e = before_same net f x y (ws 0) (us 0) s (i 0 (omega arith)) in (
        ap (λ b. gate_values net.operands b ++ []) e,
        ap (λ b. map (value (b ++ gate_values net.operands b)) net.outs ++ map (value (b ++ gate_values net.operands b)) net.nexts) e,
      )
  same_run (net ∷ (more ∷ row)) (f, fits) some x y ws us s i =
      let e = before_same net f x y (ws 0) (us 0) s (i 0 (omega arith)) in
      let next : (machine net).next x (ws 0) ≡ (machine net).next y (us 0) = ap (λ b. map (value (b ++ gate_values net.operands b)) net.nexts) e in
      let then = same_run (more ∷ row) fits (omega arith) ((machine net).next x (ws 0)) ((machine net).next y (us 0)) (rest ws) (rest us)
      (ap (first false flops) next) (λ t l. i (suc t) (omega arith)) in (
        ap₂ ◌++◌ (ap (gate_values net.operands) e) then.0,
        ap₂ ◌++◌ (ap (λ b. map (value (b ++ gate_values net.operands b)) net.outs) e) then.1,
      )

-- a valuation that is a list

says_shift : (v : ℕ → Bool) (z : ℕ) (xs : List Bool) → Says (λ k. v (suc k)) z xs → Says v (suc z) xs
says_shift v z [] s = tt
says_shift v z (x ∷ xs) (e, s) = (e, says_shift v (suc z) xs s)

list_says : (xs : List Bool) → Says (λ k. get_or xs k false) 0 xs
list_says [] = tt
list_says (x ∷ xs) = (refl, says_shift (λ k. get_or (x ∷ xs) k false) 0 xs (list_says xs))

says_at : (v : ℕ → Bool) (b : ℕ) (xs : List Bool) → Says v b xs → (k : ℕ) → k < length xs → v (b + k) ≡ get_or xs k false
says_at v b [] s k l = absurd (omega arith)
says_at v b (x ∷ xs) (e, s) zero l = let o : b + 0 ≡ b = omega arith in rw o e
says_at v b (x ∷ xs) (e, s) (suc k) l = let o : b + suc k ≡ suc b + k = omega arith in rw o (says_at v (suc b) xs s k (omega arith))

-- the bits of the inputs of the first n cycles
abbrev input_bits : ℕ → ℕ → (ℕ → List Bool) → List Bool
input_bits inputs zero ws = []
input_bits inputs (suc n) ws = first false inputs (ws 0) ++ input_bits inputs n (rest ws)

length_input_bits : (inputs n : ℕ) (ws : ℕ → List Bool) → length (input_bits inputs n ws) ≡ n * inputs
length_input_bits inputs zero ws = omega arith
length_input_bits inputs (suc n) ws =
    omega (arith, length-append (first false inputs (ws 0)) (input_bits inputs n (rest ws)), length_first false inputs (ws 0), length_input_bits inputs n (rest ws))

-- those of cycle t stand where its inputs do
input_says : (v : ℕ → Bool) (inputs b n : ℕ) (ws : ℕ → List Bool) → Says v b (input_bits inputs n ws)
    → (t : ℕ) → t < n → Says v (b + t * inputs) (first false inputs (ws t))
input_says v inputs b zero ws s t l = absurd (omega arith)
input_says v inputs b (suc n) ws s zero l =
    let here = ((says_cut v inputs b (first false inputs (ws 0)) (input_bits inputs n (rest ws)) (length_first false inputs (ws 0))).0 s).0 in
    let o : b + 0 * inputs ≡ b = omega arith in rw o here
input_says v inputs b (suc n) ws s (suc t) l =
    let then = ((says_cut v inputs b (first false inputs (ws 0)) (input_bits inputs n (rest ws)) (length_first false inputs (ws 0))).0 s).1 in
    let o : b + suc t * inputs ≡ (b + inputs) + t * inputs = omega arith in rw o (input_says v inputs (b + inputs) n (rest ws) then t (omega arith))

length_row_values : (row : List Net) (s : List Bool) (ws : ℕ → List Bool) → length (row_values row s ws) ≡ gate_count row
length_row_values [] s ws = refl
length_row_values (net ∷ row) s ws =
    let more = length_row_values row ((machine net).next s (ws 0)) (rest ws) in
    omega (
      arith,
      more,
      length_gate_values net.operands (before false net.counts s (ws 0)),
      length-append (gate_values net.operands (before false net.counts s (ws 0))) (row_values row ((machine net).next s (ws 0)) (rest ws)),
    )

-- a row reads the inputs of its own cycles only
same_inputs : (row : List Net) (x : List Bool) (ws us : ℕ → List Bool) → ((t : ℕ) → t < length row → ws t ≡ us t)
    → (row_values row x ws ≡ row_values row x us) × (results row x ws ≡ results row x us)
same_inputs [] x ws us i = (refl, refl)
same_inputs (net ∷ row) x ws us i =
    let e = i 0 (omega arith) in
    let more = same_inputs row ((machine net).next x (us 0)) (rest ws) (rest us) (λ t l. i (suc t) (omega arith)) in (
      ap (λ w. gate_values net.operands (before false net.counts x w) ++ row_values row ((machine net).next x w) (rest ws)) e
          ∙ ap (λ r. gate_values net.operands (before false net.counts x (us 0)) ++ r) more.0,
      ap (λ w. (machine net).out x w ++ results row ((machine net).next x w) (rest ws)) e ∙ ap (λ r. (machine net).out x (us 0) ++ r) more.1,
    )

same_literals : (v u : ℕ → Bool) (n z : ℕ) → ((k : ℕ) → k < n → v (z + k) ≡ u (z + k)) → h v (vars n z) ≡ h u (vars n z)
same_literals v u zero z same = refl
same_literals v u (suc n) z same =
    let o : z + 0 ≡ z = omega arith in
    let here : v z ≡ u z = rw o at (same 0 (omega arith)) in
    let p = holds_var v z in
    let q = holds_var u z in
    let more = same_literals v u n (suc z) (λ k l. let e : z + suc k ≡ suc z + k = omega arith in rw e at (same (suc k) (omega arith))) in cc

-- a valuation that gives the start and input variables the values of `bits`, and the others those that the circuits give them
pub record Witness (inputs flops : ℕ) (left right : List Net) (bits : List Bool) : Type 0 where
  pub v : ℕ → Bool
  pub low : v 1 ≡ false
  pub says_bits : Says v 2 bits
  pub says_left : Says v (left_gates inputs flops left) (row_values left (h v (start inputs flops)) (λ t. h v (input inputs flops t)))
  pub says_right : Says v (right_gates inputs flops left) (row_values right (h v (start inputs flops)) (λ t. h v (input inputs flops t)))
  pub says_differ : Says v (right_gates inputs flops left + gate_count right)
      (differs (results left (h v (start inputs flops)) (λ t. h v (input inputs flops t))) (results right (h v (start inputs flops)) (λ t. h v (input inputs flops t))))

pub witness : (inputs flops : ℕ) (left right : List Net) → length left ≡ length right → (bits : List Bool) → length bits ≡ flops + length left * inputs
    → Witness inputs flops left right bits
witness inputs flops left right l bits size =
    let n = length left in
    let x = start inputs flops in
    let i = input inputs flops in
    let u : ℕ → Bool = λ k. get_or (false ∷ false ∷ bits) k false in
    let s = h u x in
    let ws : ℕ → List Bool = λ t. h u (i t) in
    let lv = row_values left s ws in
    let rv = row_values right s ws in
    let dv = differs (results left s ws) (results right s ws) in
    let more = lv ++ (rv ++ dv) in
    let v : ℕ → Bool = λ k. get_or (false ∷ false ∷ (bits ++ more)) k false in
    let z = left_gates inputs flops left in
    let (a0, r0) = (says_cut v (flops + n * inputs) 2 bits more size).0 (list_says (false ∷ false ∷ (bits ++ more))).1.1 in
    let at-z : 2 + (flops + n * inputs) ≡ z = omega arith in
    let (a1, r1) = (says_cut v (gate_count left) z lv (rv ++ dv) (length_row_values left s ws)).0 (rw at-z at r0) in
    let (a2, a3) = (says_cut v (gate_count right) (z + gate_count left) rv dv (length_row_values right s ws)).0 r1 in
    let same : (k : ℕ) → k < 2 + length bits → v k ≡ u k = λ k b. get_or_append_left (false ∷ false ∷ bits) more false k (omega arith) in
    let starts : h v x ≡ s = same_literals v u flops 2 (λ k b. same (2 + k) (omega arith)) in
    let reads : (t : ℕ) → t < n → h v (i t) ≡ ws t
    = λ t b. same_literals v u inputs (2 + flops + t * inputs)
    (λ k c. same (2 + flops + t * inputs + k) (omega (arith, mul-le-mul_right inputs b))) in
    let us : ℕ → List Bool = λ t. h v (i t) in
    let run-left = same_inputs left s ws us (λ t b. sym (reads t b)) in
    let run-right = same_inputs right s ws us (λ t b. sym (reads t (omega arith))) in
    record {
      v = v;
      low = refl;
      says_bits = a0;
      says_left = subst (λ y. Says v z (row_values left y us)) (sym starts) (subst (Says v z) run-left.0 a1);
      says_right = subst (λ y. Says v (z + gate_count left) (row_values right y us)) (sym starts) (subst (Says v (z + gate_count left)) run-right.0 a2);
      says_differ = subst (λ y. Says v (z + gate_count left + gate_count right) (differs (results left y us) (results right y us))) (sym starts)
          (subst (Says v (z + gate_count left + gate_count right)) (ap₂ differs run-left.1 run-right.1) a3);
    }

length_results : (inputs flops outs : ℕ) (row : List Net) → AllByRecursion (Sized inputs flops outs) row → (x : List Bool) (ws : ℕ → List Bool)
    → length x ≡ flops → length (results row x ws) ≡ length row * outs + flops
length_results inputs flops outs [] fits x ws l = omega arith
length_results inputs flops outs (net ∷ row) (f, fits) x ws l =
    let x' = (machine net).next x (ws 0) in
    let more = length_results inputs flops outs row fits x' (rest ws) (length-map net.nexts (value (values net x (ws 0))) ∙ f.nexts_are) in
    omega (arith, more, length-append ((machine net).out x (ws 0)) (results row x' (rest ws)), length-map net.outs (value (values net x (ws 0))), f.outs_are)

abbrev pub pin_clauses : List ℕ → List (List ℕ)
pin_clauses pins = map (λ l. l ∷ []) (pin_literals pins 2)

-- pins say nothing past their end
pub fits_move : (pins : List ℕ) (flops : ℕ) → length pins ≤ flops → (f g : ℕ → Bool) → ((j : ℕ) → j < flops → f j ≡ g j)
    → ((j : ℕ) → Held (get_or pins j 2) (f j)) → (j : ℕ) → Held (get_or pins j 2) (g j)
fits_move pins flops size f g same held j =
    elim (cases_lt j flops) [
      | inl b ↦ subst (λ x. Held (get_or pins j 2) x) (same j b) (held j)
      | inr b ↦ subst (λ p. Held p (g j)) (sym (get_or_past pins j 2 (omega arith))) tt
    ]

lone_negated : (b : Bool) → (not b || false) ≡ true ↔ b ≡ false
lone_negated b = (λ e. grind (arith, nat_tests), λ e. grind (arith, nat_tests))

module _ (v : ℕ → Bool) where
  abbrev pub PinsHeld : List ℕ → ℕ → Type 0
  PinsHeld pins z = (j : ℕ) → Held (get_or pins j 2) (v (z + j))

  pub held_more : (p : ℕ) (pins : List ℕ) (z : ℕ) → Held p (v z) → PinsHeld pins (suc z) → PinsHeld (p ∷ pins) z
  held_more p pins z here more zero = let e : z + 0 ≡ z = omega arith in rw e here
  held_more p pins z here more (suc j) = let e : z + suc j ≡ suc z + j = omega arith in rw e (more j)

  held_parts : (p : ℕ) (pins : List ℕ) (z : ℕ) → PinsHeld (p ∷ pins) z → Held p (v z) × PinsHeld pins (suc z)
  held_parts p pins z all =
      let e : z + 0 ≡ z = omega arith in
      (subst (λ y. Held p (v y)) e (all 0), λ j. let e : z + suc j ≡ suc z + j = omega arith in subst (λ y. Held (get_or pins j 2) (v y)) e (all (suc j)))

  pub pins_hold : (pins : List ℕ) (z : ℕ) → Satisfies v (map (λ l. l ∷ []) (pin_literals pins z)) ↔ PinsHeld pins z
  pins_hold [] z = (λ s j. tt, λ s. tt)
  pins_hold (zero ∷ pins) z =
      let e = holds_not_var v z in
      let more = pins_hold pins (suc z) in
      let low = lone_negated (v z) in (
        λ s. held_more 0 pins z (low.0 (ap (λ x. x || false) (sym e) ∙ s.0)) (more.0 s.1),
        λ a. let (here, there) = held_parts 0 pins z a in (ap (λ x. x || false) e ∙ low.1 here, more.1 there),
      )
  pins_hold (suc zero ∷ pins) z =
      let e = or-false (holds v (2 * z)) ∙ holds_var v z in
      let more = pins_hold pins (suc z) in (
        λ s. held_more 1 pins z (sym e ∙ s.0) (more.0 s.1),
        λ a. let (here, there) = held_parts 1 pins z a in (e ∙ here, more.1 there),
      )
  pins_hold (suc (suc p) ∷ pins) z =
      let more = pins_hold pins (suc z) in (
        λ s. held_more (suc (suc p)) pins z tt (more.0 s),
        λ a. more.1 (held_parts (suc (suc p)) pins z a).1,
      )

  bit_at : (n z j : ℕ) → j < n → get_or (h v (vars n z)) j false ≡ v (z + j)
  bit_at zero z j l = absurd (omega arith)
  bit_at (suc n) z zero l = let o : z + 0 ≡ z = omega arith in rw o (holds_var v z)
  bit_at (suc n) z (suc j) l = let o : z + suc j ≡ suc z + j = omega arith in rw o (bit_at n (suc z) j (omega arith))

  pub start_bit : (inputs flops j : ℕ) → j < flops → get_or (h v (start inputs flops)) j false ≡ v (2 + j)
  start_bit inputs flops j l = bit_at flops 2 j l

pub length_vars : (n z : ℕ) → length (vars n z) ≡ n
length_vars zero z = refl
length_vars (suc n) z = ap suc (length_vars n (suc z))

module _ (inputs flops outs : ℕ) (pins : List ℕ) (left right : List Net)
    (fl : AllByRecursion (Sized inputs flops outs) left) (fr : AllByRecursion (Sized inputs flops outs) right) (l : length left ≡ length right) (size : length pins ≤ flops) where
  refuted : Equal (FitsPins pins) (map machine left) (map machine right) → Refutable (given_clauses inputs flops (pin_literals pins 2) left right)
  refuted equal v (first-clause, sat) =
      let low = (lone_negated (v 1)).0 first-clause in
      let s = start inputs flops in
      let i = input inputs flops in
      let z = 2 + flops + length left * inputs in
      let y = z + gate_count left in
      let d = y + gate_count right in
      let us = row_results left s i z in
      let ws = row_results right s i y in
      let A = row_clauses left s i z in
      let B = row_clauses right s i y in
      let C = difference_clauses us ws d in
      let D = vars (length us) d ∷ [] in
      let P : List ℕ → Type 0 = λ c. holds_in v c ≡ true in
      let (abcd, in-pins) = all_parts P (A ++ B ++ C ++ D) (pin_clauses pins) sat in
      let (abc, in-d) = all_parts P (A ++ B ++ C) D abcd in
      let (ab, in_c) = all_parts P (A ++ B) C abc in
      let (in-a, in_b) = all_parts P A B ab in
      let x = h v s in
      let us'' : ℕ → List Bool = λ t. h v (i t) in
      let pinned = fits_move pins flops size (λ j. v (2 + j)) (λ j. get_or x j false) (λ j b. sym (start_bit v inputs flops j b)) ((pins_hold v pins 2).0 in-pins) in
      let (o, f) = equal x pinned us'' in
      let got_left = row_gives v low left s i z ((row_say v low left s i z).0 in-a) in
      let got_right = row_gives v low right s i y ((row_say v low right s i y).0 in_b) in
      differ_refuted v low us ws d in_c in-d.0 (got_left ∙ joined_results left right x x us'' l o f ∙ sym got_right)

  module _ {bits : List Bool} (w : Witness inputs flops left right bits) where
    abbrev pub left_results : List ℕ
    left_results = row_results left (start inputs flops) (input inputs flops) (left_gates inputs flops left)

    abbrev pub right_results : List ℕ
    right_results = row_results right (start inputs flops) (input inputs flops) (right_gates inputs flops left)

    pub got_left : h w.v left_results ≡ results left (h w.v (start inputs flops)) (λ t. h w.v (input inputs flops t))
    got_left = row_gives w.v w.low left (start inputs flops) (input inputs flops) (left_gates inputs flops left) w.says_left

    pub got_right : h w.v right_results ≡ results right (h w.v (start inputs flops)) (λ t. h w.v (input inputs flops t))
    got_right = row_gives w.v w.low right (start inputs flops) (input inputs flops) (right_gates inputs flops left) w.says_right

    pub as_long : length left_results ≡ length right_results
    as_long =
        let x = h w.v (start inputs flops) in
        let us : ℕ → List Bool = λ t. h w.v (input inputs flops t) in
        let size : length x ≡ flops = length-map (start inputs flops) (holds w.v) ∙ length_vars flops 2 in
        sym (length-map left_results (holds w.v)) ∙ ap length got_left ∙ length_results inputs flops outs left fl x us size
        ∙ ap (λ m. m * outs + flops) l ∙ sym (length_results inputs flops outs right fr x us size) ∙ sym (ap length got_right) ∙ length-map right_results (holds w.v)

    pub said_differ : Says w.v (right_gates inputs flops left + gate_count right) (differs (h w.v left_results) (h w.v right_results))
    said_differ = subst (Says w.v (right_gates inputs flops left + gate_count right)) (ap₂ differs (sym got_left) (sym got_right)) w.says_differ

  equal_rows : 0 < length left → Refutable (given_clauses inputs flops (pin_literals pins 2) left right) → Equal (FitsPins pins) (map machine left) (map machine right)
  equal_rows some refutable s pinned ws =
      let x = start inputs flops in
      let i = input inputs flops in
      let n = length left in
      let s' = first false flops s in
      let ib = input_bits inputs n ws in
      let w = witness inputs flops left right l (s' ++ ib)
      (length-append s' ib ∙ ap₂ ◌+◌ (length_first false flops s) (length_input_bits inputs n ws)) in
      let v = w.v in
      let low = w.low in
      let z = left_gates inputs flops left in
      let y = z + gate_count left in
      let d = y + gate_count right in
      let us = left_results w in
      let vs = right_results w in
      let (a0, a1) = (says_cut v flops 2 s' ib (length_first false flops s)).0 w.says_bits in
      let starts : h v x ≡ s'
      = vars_say v flops 2 s' (length_first false flops s) a0 in
      let reads : (t : ℕ) → t < n → h v (i t) ≡ first false inputs (ws t)
      = λ t b. vars_say v inputs (2 + flops + t * inputs) (first false inputs (ws t)) (length_first false inputs (ws t)) (input_says v inputs (2 + flops) n ws a1 t b) in
      let us'' : ℕ → List Bool = λ t. h v (i t) in
      let made = differ_made v low us vs d (as_long w) (said_differ w) in
      let A = row_clauses left x i z in
      let B = row_clauses right x i y in
      let C = difference_clauses us vs d in
      let D = vars (length us) d ∷ [] in
      let P : List ℕ → Type 0 = λ c. holds_in v c ≡ true in
      let none : holds_in v (vars (length us) d) ≡ false
      = false_from_ne_true (holds_in v (vars (length us) d)) (λ some-differ. refutable v (
        rw low refl,
        All-append P (A ++ B ++ C ++ D) (pin_clauses pins)
            (All-append P (A ++ B ++ C) D
            (All-append P (A ++ B) C (All-append P A B ((row_say v low left x i z).1 w.says_left) ((row_say v low right x i y).1 w.says_right)) made.0)
            (some-differ, tt))
            ((pins_hold v pins 2).1 (fits_move pins flops size (λ j. get_or s j false) (λ j. v (2 + j)) (λ j b. sym (says_at v 2 s' a0 j (omega (arith, length_first false flops s)) ∙ get_or_first false flops s j b)) pinned)),
      )) in
      let to_bits : (row : List Net) → AllByRecursion (Sized inputs flops outs) row → 0 < length row → length row ≡ n → results row s ws ≡ results row (h v x) us''
      = λ row fits m e. (same_run inputs flops outs row fits m s (h v x) ws us''
      (sym (ap (first false flops) starts ∙ first_whole false flops s' (length_first false flops s)))
      (λ t b. sym (ap (first false inputs) (reads t (omega arith)) ∙ first_whole false inputs (first false inputs (ws t)) (length_first false inputs (ws t))))).1 in
      split_results inputs flops outs left right fl fr l s s ws refl
      (to_bits left fl some refl ∙ sym (got_left w) ∙ made.1 none ∙ got_right w ∙ sym (to_bits right fr (omega arith) (sym l)))

equal_at_all : (inputs flops outs : ℕ) (pins : List ℕ) (left right : List Net)
    → AllByRecursion (Sized inputs flops outs) left → AllByRecursion (Sized inputs flops outs) right → length left ≡ length right → length pins ≤ flops
    → Refutable (given_clauses inputs flops (pin_literals pins 2) left right) → Equal (FitsPins pins) (map machine left) (map machine right)
equal_at_all inputs flops outs pins [] [] fl fr l size refutable s pinned ws = (refl, refl)
equal_at_all inputs flops outs pins [] (b ∷ right) fl fr l size refutable s pinned ws = absurd (omega arith)
equal_at_all inputs flops outs pins (a ∷ left) right fl fr l size refutable s pinned ws =
    equal_rows inputs flops outs pins (a ∷ left) right fl fr l size (omega arith) refutable s pinned ws

-- over lists of any lengths
pub clauses_total : (inputs flops outs : ℕ) (pins : List ℕ) (left right : List Net)
    → AllByRecursion (Sized inputs flops outs) left → AllByRecursion (Sized inputs flops outs) right → length left ≡ length right → length pins ≤ flops
    → Refutable (given_clauses inputs flops (pin_literals pins 2) left right) ↔ Equal (FitsPins pins) (map machine left) (map machine right)
clauses_total inputs flops outs pins left right fl fr l size =
    (equal_at_all inputs flops outs pins left right fl fr l size, refuted inputs flops outs pins left right fl fr l size)
