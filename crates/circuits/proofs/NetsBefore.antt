-- The nets before the gates: how many they are, those before the flops, and the flops.
use Rattle.std.proofs.Common.{◌≡◌, ℕ, ◌+◌, ◌-◌, ◌<◌, ◌≤◌, List, ◌∷◌, length, get_or, sym, refl, ap, ◌∙◌, arith}
use Rattle.std.proofs.lemmas.List.FromFn.{length-map-range_with_len, get_or-map-range_with_len, fill_by_all}
use Rattle.std.proofs.lemmas.List.{length-append, get_or_append_left, get_or-append_right}
use Rattle.circuits.specs.declared.counts.Counts.{Counts}
use Rattle.circuits.specs.Net.{first, before}

module _ {X : Type 0} (off : X) where
  -- the first n of a list
  pub length_first : (n : ℕ) (xs : List X) → length (first off n xs) ≡ n
  length_first n xs = length-map-range_with_len (λ k. get_or xs k off) 0 n

  pub get_or_first : (n : ℕ) (xs : List X) (k : ℕ) → k < n → get_or (first off n xs) k off ≡ get_or xs k off
  get_or_first n xs k l = get_or-map-range_with_len (λ k. get_or xs k off) 0 n k k off l (omega arith)

  -- of n things the first n are all
  pub first_whole : (n : ℕ) (xs : List X) → length xs ≡ n → first off n xs ≡ xs
  first_whole n xs l = sym (fill_by_all (λ k. get_or xs k off) xs n off l (λ k b. refl))

  module _ (c : Counts) (state inputs : List X) where
    abbrev pub ins : List X
    ins = off ∷ first off c.inputs inputs

    abbrev held : List X
    held = first off c.flops state

    length_ins : length ins ≡ 1 + c.inputs
    length_ins = let l = length_first c.inputs inputs in omega arith

    pub length_before : length (before off c state inputs) ≡ 1 + c.inputs + c.flops
    length_before = let l = length_first c.flops state in omega (arith, length_ins, length-append ins held)

    pub before_ins : (v : ℕ) → v ≤ c.inputs → get_or (before off c state inputs) v off ≡ get_or ins v off
    before_ins v h = get_or_append_left ins held off v (omega (arith, length_ins))

    pub before_flop : (f : ℕ) → f < c.flops → get_or (before off c state inputs) (1 + c.inputs + f) off ≡ get_or state f off
    before_flop f h =
        let e : 1 + c.inputs + f - (1 + c.inputs) ≡ f = omega arith in
        get_or-append_right ins held (1 + c.inputs) (1 + c.inputs + f) off length_ins (omega arith)
        ∙ ap (λ m. get_or held m off) e ∙ get_or_first c.flops state f h
