-- The words after the sections have written some: gates, flops and outputs, each its own part, and what is left as it was.
use Rattle.std.proofs.Common.{◌≡◌, ℕ, ◌+◌, List, ◌++◌, length, take, drop, ap, ◌∙◌, append_assoc, arith}
use Rattle.std.proofs.Math.Seq.{take-append_seam, drop-append_seam}
use Rattle.std.proofs.lemmas.List.{length-append, drop-drop}

module _ (gs fs os later : List ℕ) (n : ℕ) (l : length gs + length fs + length os ≡ n) where
  joined : gs ++ (fs ++ (os ++ later)) ≡ (gs ++ (fs ++ os)) ++ later
  joined = simp append_assoc

  whole : n ≡ length (gs ++ (fs ++ os))
  whole = simp length-append (omega arith)

  pub parts_front : take n (gs ++ (fs ++ (os ++ later))) ≡ gs ++ (fs ++ os)
  parts_front = ap (λ xs. take n xs) joined ∙ ap (λ m. take m ((gs ++ (fs ++ os)) ++ later)) whole ∙ take-append_seam (gs ++ (fs ++ os)) later

  pub parts_later : drop n (gs ++ (fs ++ (os ++ later))) ≡ later
  parts_later = ap (λ xs. drop n xs) joined ∙ ap (λ m. drop m ((gs ++ (fs ++ os)) ++ later)) whole ∙ drop-append_seam (gs ++ (fs ++ os)) later

pub drop_thrice : (g f o : ℕ) (ws : List ℕ) → drop o (drop f (drop g ws)) ≡ drop (g + f + o) ws
drop_thrice g f o ws = ap (drop o) (drop-drop f g ws) ∙ drop-drop o (g + f) ws
