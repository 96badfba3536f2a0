-- Literals under a renumbering of nets.
use Rattle.std.specs.Prelude.{ℕ, ◌+◌, ◌*◌, ◌/◌, ◌%◌}

-- literal x where net v goes by the number `to v`; an inverse stays an inverse
abbrev pub renumbered : (ℕ → ℕ) → ℕ → ℕ
renumbered to x = 2 * to (x / 2) + x % 2

abbrev pub both_renumbered : (ℕ → ℕ) → ℕ × ℕ → ℕ × ℕ
both_renumbered to g = (renumbered to g.0, renumbered to g.1)
