-- What code answers and leaves, put together so that one equation says both.
use Rattle.std.specs.Prelude.{ℕ, List, Some, None, Ok, Err, Option, Result}
use Rattle.aiger.specs.declared.fault.Refusal.{Refusal}
use Rattle.aiger.specs.declared.fault.ReadFault.{ReadFault}

-- an answer beside what is left of the text
abbrev pub beside : {X : Type 0} → List ℕ → Option X → Option (X × List ℕ)
beside t None = None
beside t (Some x) = Some (x, t)

abbrev pub beside_result : {X F : Type 0} → List ℕ → Result X F → Result (X × List ℕ) F
beside_result t (Err f) = Err f
beside_result t (Ok x) = Ok (x, t)

-- an answer that refuses, with the number of its line
abbrev pub told_at : {X : Type 0} → ℕ → Result X Refusal → Result X ReadFault
told_at k (Err r) = Err (record { refusal = r; line = k })
told_at k (Ok x) = Ok x

-- what was written in the place of an answer that says nothing, beside what is left of the text
abbrev pub holding : {S X F : Type 0} → S → List ℕ → Result X F → Result (S × List ℕ) F
holding s t (Err f) = Err f
holding s t (Ok x) = Ok (s, t)

-- what was read, as words
abbrev pub as_words : {X S F : Type 0} → (X → S) → Result (X × List ℕ) F → Result (S × List ℕ) F
as_words f (Err e) = Err e
as_words f (Ok p) = Ok (f p.0, p.1)
