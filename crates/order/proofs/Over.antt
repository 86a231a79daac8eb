-- Numbers written over the beginning of others: how long they are then, their beginning and their rest, one number
-- more, and how to tell such a list by its numbers.
-- Assumes nothing.
use mathlib.Core.Path.{◌≡◌, refl, sym, ap, ◌∙◌}
use mathlib.Core.List.{List}
use Prim.Native.Nat.{ℕ, suc, ◌+◌, ◌-◌, ◌≤◌, ◌<◌}
use native.Mathlib.Decide.{dec_lt}
use native.Mathlib.Numerals.{add-one}
use native.Mathlib.Omega.{arith}
use lib.ListN.{length, get_or, take, drop, set, length-append, length-drop, take-append-drop, get_or-append}
use lib.Seq.{length-take-le, take_at, drop_at, paste-suc, ext_get_or, get_or-drop, get_or-append-add}
use Rattle.order.specs.Lists.{over}

module _ (new old : List ℕ) where
  pub over_length : length new ≤ length old → length (over new old) ≡ length old
  over_length h = omega (arith, length-append new (drop (length new) old), length-drop (length new) old)

  module _ (n : ℕ) (e : length new ≡ n) where
    pub over_first : take n (over new old) ≡ new
    over_first = take_at new (drop (length new) old) n e

    pub over_past : drop n (over new old) ≡ drop n old
    over_past = drop_at new (drop (length new) old) n e ∙ ap (λ k. drop k old) e

  -- a list that has the new numbers first, and then what stood there
  pub over_numbers : (d : List ℕ) → length d ≡ length old → length new ≤ length old
      → ((p : ℕ) → p < length new → get_or d p 0 ≡ get_or new p 0)
      → ((p : ℕ) → length new ≤ p → get_or d p 0 ≡ get_or old p 0) → d ≡ over new old
  over_numbers d e h first rest =
      ext_get_or 0 d (over new old) (e ∙ sym (over_length h)) (λ p l. go p (dec_lt p (length new)))
    where
      go : (p : ℕ) → Dec (p < length new) → get_or d p 0 ≡ get_or (over new old) p 0
      go p (yes a) = first p a ∙ sym (get_or-append new (drop (length new) old) 0 p a)
      go p (no a) =
          let q : length new + (p - length new) ≡ p = omega arith in
          rest p (omega arith)
          ∙ sym (rw q at (get_or-append-add new (drop (length new) old) (p - length new) 0
          ∙ get_or-drop (length new) old (p - length new) 0))

-- as many as there are new ones, taken from a list that is told to be such a one
pub over_front : (new old : List ℕ) {n : ℕ} {l : List ℕ} → (n ≡ length new) × (l ≡ over new old) → take n l ≡ new
over_front new old e = rw (e.0, e.1) (over_first new old _ refl)

-- the first n of a list whose rest is that of another
pub over_is : (n : ℕ) (l old : List ℕ) → n ≤ length l → drop n l ≡ drop n old → over (take n l) old ≡ l
over_is n l old h e = rw (length-take-le n l h, ← e) (take-append-drop n l)

-- the next number of a list
pub over_next : (l old : List ℕ) (j : ℕ) → j < length l → j < length old
    → set (over (take j l) old) j (get_or l j 0) ≡ over (take (j + 1) l) old
over_next l old j h g =
    let z : 0 + j ≡ j = omega arith in
    let y : 0 + suc j ≡ suc j = omega arith in
    rw (add-one, length-take-le j l (omega arith), length-take-le (suc j) l (omega arith))
    (rw (z, y) at (paste-suc old 0 l j 0 (omega arith) h))
