-- What words stand for, by whether they hold a circuit.
use Rattle.std.proofs.Common.{◌≡◌, ℕ, List, ◌++◌, length, take, drop, Ok, sym, ap, ◌∙◌, ◌≤◌, subst}
use Rattle.std.proofs.lemmas.List.{take_at}
use Rattle.circuits.specs.declared.counts.Counts.{Counts}
use Rattle.circuits.specs.Net.{Net, Bounded, layout, room}
use Rattle.circuits.specs.Held.{Holds, net_in, blank}
use Rattle.circuits.proofs.HeldInWords.{holds_only, holds_bounded, bounded_holds}
use Rattle.circuits.proofs.Layouts.{room_taken}
use Rattle.aiger.specs.Reading.{reading, words_after}
use Rattle.aiger.proofs.Accepted.{accepts_written}
use Rattle.netlists.specs.Plain.{SomeHeld, StandsFor}

module _ (c : Counts) (words : List ℕ) where
  -- what was read is held
  read_held : (lent : ℕ) (text before : List ℕ) (m : Net) → reading lent text ≡ Ok m → c ≡ m.counts
      → words ≡ words_after (reading lent text) before → Holds c words m
  read_held lent text before m e k w =
      let b = (accepts_written lent text m e).0 in
      let w' : words ≡ layout m ++ drop (length (layout m)) before = w ∙ ap (λ r. words_after r before) e in
      record {
        bounded = b;
        counted = sym k;
        laid = ap (λ d. take (room d) words) k ∙ ap (take (room m.counts)) w' ∙ take_at (layout m) _ (room m.counts) (room_taken m b);
      }

  -- words hold one circuit at most
  held_once : (n m : Net) → Holds c words n → Holds c words m → n ≡ m
  held_once n m h k = sym (holds_only c words n h) ∙ holds_only c words m k

  pub stands_held : (n : Net) → Holds c words n → StandsFor c words n
  stands_held n h = record {
    held = λ m k. held_once n m h k;
    none_held = λ none. absurd (none (n, h));
    as_read = λ lent text before m e k l. held_once n m h (read_held lent text before m e k l);
  }

  pub stands_blank : (n : Net) → (SomeHeld c words → ⊥) → n ≡ blank → StandsFor c words n
  stands_blank n none e = record {
    held = λ m h. absurd (none (m, h));
    none_held = λ _. e;
    as_read = λ lent text before m r k l. absurd (none (m, read_held lent text before m r k l));
  }

  -- the circuit that is read off by place is held where it is bounded, and nothing is held where it is not
  pub some_long : SomeHeld c words → room c ≤ length words
  some_long h = (holds_bounded c words h.0 h.1).0

  pub some_bounded : (n : Net) → n ≡ net_in c words → SomeHeld c words → Bounded n
  some_bounded n e h = subst Bounded (sym e) (holds_bounded c words h.0 h.1).1

  pub bounded_held : (n : Net) → n ≡ net_in c words → room c ≤ length words → Bounded n → Holds c words n
  bounded_held n e h b = subst (Holds c words) (sym e) (bounded_holds c words h (subst Bounded e b))
