-- Lists under a map, and what is read from a list at any place.
use Rattle.std.proofs.Common.{◌≡◌, ℕ, zero, suc, List, [], ◌∷◌, map, get_or, ap, ◌∙◌}
use mathlib.Core.Path.{fun_ext}
use mathlib.Core.List.{map-map}
use Rattle.std.specs.List.{AllByRecursion}
use Rattle.std.proofs.lemmas.List.{map-id}

-- two maps that come to a third
pub map_twice : {X Y Z : Type 0} (f : X → Z) (g : Y → Z) (h : X → Y) → ((x : X) → g (h x) ≡ f x) → (xs : List X) → map g (map h xs) ≡ map f xs
map_twice f g h e xs = map-map g h xs ∙ ap (λ k. map k xs) (fun_ext e)

-- a map and the way back
pub map_back : {X Y : Type 0} (g : Y → X) (h : X → Y) → ((x : X) → g (h x) ≡ x) → (xs : List X) → map g (map h xs) ≡ xs
map_back g h e xs = map_twice (λ x. x) g h e xs ∙ map-id xs

-- what holds of the default and of each element is so at any place
pub any_get_or : {X : Type 0} (P : X → Type 0) (xs : List X) (d : X) → P d → AllByRecursion P xs → (i : ℕ) → P (get_or xs i d)
any_get_or P [] d z a i = z
any_get_or P (x ∷ xs) d z a zero = a.0
any_get_or P (x ∷ xs) d z a (suc i) = any_get_or P xs d z a.1 i
