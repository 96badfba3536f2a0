-- the readers at a text that has a first byte, as the code takes it apart
use Rattle.std.proofs.Common.{◌≡◌, ℕ, ◌-◌, ◌≤◌, true, eqb, leb, List, length, get_or, take, drop, Some, None, sym, ap, ◌∙◌, arith}
use Rattle.std.proofs.lemmas.Slice.{first_rest}
use Rattle.std.proofs.lemmas.Bool.{eq-eqb, le-leb, and_from, cond-true}
use Rattle.aiger.specs.Lines.{byte, digit, is_digit}

-- the text without its first byte, as `[first, rest @ ..]` has it
abbrev pub rest : List ℕ → List ℕ
rest xs = take (length xs - 1) (drop 1 xs)

pub byte_took : (b : ℕ) (xs : List ℕ) → 1 ≤ length xs → get_or xs 0 0 ≡ b → Some (tt, rest xs) ≡ byte b xs
byte_took b xs h e =
    sym (ap (byte b) (first_rest xs 0 (omega arith)) ∙ cond-true (eqb (get_or xs 0 0) b) (Some (tt, rest xs)) None (eq-eqb (get_or xs 0 0) b e))

pub digit_is : (b : ℕ) → 48 ≤ b → b ≤ 57 → is_digit b ≡ true
digit_is b l h = and_from (leb 48 b) (leb b 57) (le-leb 48 b l) (le-leb b 57 h)

pub digit_took : (xs : List ℕ) → 1 ≤ length xs → 48 ≤ get_or xs 0 0 → get_or xs 0 0 ≤ 57 → Some (get_or xs 0 0 - 48, rest xs) ≡ digit xs
digit_took xs h l k =
    sym (ap digit (first_rest xs 0 (omega arith)) ∙ cond-true (is_digit (get_or xs 0 0)) (Some (get_or xs 0 0 - 48, rest xs)) None (digit_is (get_or xs 0 0) l k))
