-- Lists of one thing over and over, and of one and then another; and what holds of each element of a list.
use Rattle.std.proofs.Common.{◌≡◌, ℕ, zero, suc, ◌+◌, List, [], ◌∷◌, ◌++◌, map, length, replicate, refl, ap, ◌∙◌, ap₂, length-append}
use lib.ListN.{length-replicate}
use Rattle.std.specs.List.{AllByRecursion}
use Rattle.std.proofs.ByRecursion.{All-append}
use Rattle.std.proofs.lemmas.List.{map-append}
use Rattle.std.proofs.lemmas.List.Elements.{All-replicate, recursion_from_All}

module _ {X : Type 0} (P : X → Type 0) where
  pub all_parts : (xs ys : List X) → AllByRecursion P (xs ++ ys) → AllByRecursion P xs × AllByRecursion P ys
  all_parts [] ys a = (tt, a)
  all_parts (x ∷ xs) ys (p, a) = let r = all_parts xs ys a in ((p, r.0), r.1)

  pub all_replicate : (n : ℕ) (x : X) → P x → AllByRecursion P (replicate n x)
  all_replicate n x p = recursion_from_All P (replicate n x) (All-replicate P n x p)

  pub all_row : (x y : X) → P x → P y → (n k : ℕ) → AllByRecursion P (replicate n x ++ replicate k y)
  all_row x y p q n k = All-append P (replicate n x) (replicate k y) (all_replicate n x p) (all_replicate k y q)

pub length_row : {X : Type 0} (x y : X) (n k : ℕ) → length (replicate n x ++ replicate k y) ≡ n + k
length_row x y n k = length-append (replicate n x) (replicate k y) ∙ ap₂ ◌+◌ (length-replicate n x) (length-replicate k y)

module _ {X Y : Type 0} (f : X → Y) where
  pub map_replicate : (n : ℕ) (x : X) → map f (replicate n x) ≡ replicate n (f x)
  map_replicate zero x = refl
  map_replicate (suc n) x = ap (λ r. f x ∷ r) (map_replicate n x)

  pub map_row : (x y : X) (n k : ℕ) → map f (replicate n x ++ replicate k y) ≡ replicate n (f x) ++ replicate k (f y)
  map_row x y n k = map-append f (replicate n x) (replicate k y) ∙ ap₂ ◌++◌ (map_replicate n x) (map_replicate k y)
