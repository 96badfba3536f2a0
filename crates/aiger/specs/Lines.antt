-- What stands at the front of a text of bytes: each reader answers what it read and the rest of the text, or none.
use Rattle.std.specs.Prelude.{ℕ, ◌+◌, ◌-◌, ◌*◌, ◌^◌, Bool, cond, ◌&&◌, List, [], ◌∷◌, Some, None, Option, ◌==◌, nat_le, nat_lt}
use Rattle.aiger.specs.declared.lines.Header.{Header}
use Rattle.aiger.specs.declared.lines.FlopLine.{FlopLine}
use Rattle.aiger.specs.declared.lines.GateLine.{GateLine}

-- one reader after another
abbrev pub then : {X Y : Type 0} → Option (X × List ℕ) → (X → List ℕ → Option Y) → Option Y
then None f = None
then (Some p) f = f p.0 p.1

-- the byte b
abbrev pub byte : ℕ → List ℕ → Option (Unit {0} × List ℕ)
byte b [] = None
byte b (x ∷ t) = cond (x == b) (Some (tt, t)) None

-- a digit, from byte 48 for 0 to byte 57 for 9
abbrev pub is_digit : ℕ → Bool
is_digit b = nat_le 48 b && nat_le b 57

abbrev pub digit : List ℕ → Option (ℕ × List ℕ)
digit [] = None
digit (b ∷ t) = cond (is_digit b) (Some (b - 48, t)) None

-- the digits that follow the number n so far, as long as the number stays below 2 ^ 32
abbrev pub digits : ℕ → List ℕ → Option (ℕ × List ℕ)
digits n [] = Some (n, [])
digits n (b ∷ t) =
    cond (is_digit b) (cond (nat_lt (n * 10 + (b - 48)) (2 ^ 32)) (digits (n * 10 + (b - 48)) t) None) (Some (n, b ∷ t))

-- a number: 0, or a digit from 1 to 9 and the digits that follow it
abbrev pub numeral : List ℕ → Option (ℕ × List ℕ)
numeral t = then (digit t) (λ d u. cond (d == 0) (Some (0, u)) (digits d u))

-- a space and a number
abbrev pub field : List ℕ → Option (ℕ × List ℕ)
field t = then (byte 32 t) (λ _ u. numeral u)

-- a line of one number
abbrev pub single : List ℕ → Option (ℕ × List ℕ)
single t = then (numeral t) (λ a u. then (byte 10 u) (λ _ v. Some (a, v)))

-- a gate's line: its own literal and its two operands
abbrev pub gate : List ℕ → Option (GateLine × List ℕ)
gate t =
    then (numeral t) (λ own u.
    then (field u) (λ left v.
    then (field v) (λ right w.
    then (byte 10 w) (λ _ x. Some (record { own = own; left = left; right = right }, x)))))

-- what ends a flop's line: byte 10 at once, or one number more and then byte 10
abbrev pub third : List ℕ → Option (Option ℕ × List ℕ)
third t = elim (byte 10 t) [
  | Some p ↦ Some (None, p.1)
  | None ↦ then (field t) (λ a u. then (byte 10 u) (λ _ v. Some (Some a, v)))
]

-- a flop's line: its own literal, its next literal, and a third number or none
abbrev pub flop : List ℕ → Option (FlopLine × List ℕ)
flop t =
    then (numeral t) (λ own u.
    then (field u) (λ next v.
    then (third v) (λ r w. Some (record { own = own; next = next; third = r }, w))))

-- line 1: aag M I L O A
abbrev pub header : List ℕ → Option (Header × List ℕ)
header t =
    then (byte 97 t) (λ _ t₁. then (byte 97 t₁) (λ _ t₂. then (byte 103 t₂) (λ _ t₃.
    then (field t₃) (λ m u. then (field u) (λ i v. then (field v) (λ l w. then (field w) (λ o x. then (field x) (λ a y.
    then (byte 10 y) (λ _ z.
    Some (record { last = m; counts = record { inputs = i; flops = l; gates = a; outputs = o } }, z))))))))))
