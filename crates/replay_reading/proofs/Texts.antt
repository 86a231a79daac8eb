-- What stands in a text from place i on, one byte at a time: the byte decides, or the text is at its end.
-- Assumes nothing.
use mathlib.Core.Path.{◌≡◌, refl, sym, ap, ◌∙◌}
use mathlib.Core.Bool.{Bool, true, false, cond}
use mathlib.Core.List.{List, [], ◌∷◌, ◌++◌}
use Prim.Native.Nat.{ℕ, suc, ◌+◌, ◌-◌, ◌≤◌, ◌<◌}
use native.Mathlib.Numerals.{add-one}
use native.Mathlib.Omega.{arith}
use borrow.Author.Tests.{eq-eqb, ne_eqb}
use lib.Dec.{eqb}
use lib.ListN.{length, get_or, take, drop, length-drop, drop_of_length-le}
use lib.Seq.{drop-cons, drop-drop, take_all}
use Rattle.replay_reading.specs.declared.text.Item.{Item}
use Rattle.replay_reading.specs.Text.{until, opened, bracketed, closes, after_closing, spaced}
use Rattle.replay_reading.specs.Text.{goes_on, gap, with_byte, pending, read}

module _ (t : List ℕ) (i : ℕ) (h : i < length t) where
  pub until_stop : (b : ℕ) → get_or t i 0 ≡ b → length (until b (drop i t)) ≡ 0
  unfolding until
  until_stop b e = rw (drop-cons t i 0 h, eq-eqb _ _ e)

  pub until_on : (b : ℕ) → (get_or t i 0 ≡ b → ⊥)
      → length (until b (drop i t)) ≡ suc (length (until b (drop (i + 1) t)))
  unfolding until
  until_on b e = rw (add-one, drop-cons t i 0 h, ne_eqb _ _ e)

  pub opened_here : (k : ℕ) → get_or t i 0 ≡ 91 → k ≡ 0 → opened k (drop i t) ≡ drop (i + 1) t
  unfolding opened
  opened_here k e z = rw (add-one, drop-cons t i 0 h, eq-eqb _ _ e, eq-eqb _ _ z)

  pub opened_past : (k : ℕ) → get_or t i 0 ≡ 91 → (k ≡ 0 → ⊥) → opened k (drop i t) ≡ opened (k - 1) (drop (i + 1) t)
  unfolding opened
  opened_past k e z = rw (add-one, drop-cons t i 0 h, eq-eqb _ _ e, ne_eqb _ _ z)

  pub opened_on : (k : ℕ) → (get_or t i 0 ≡ 91 → ⊥) → opened k (drop i t) ≡ opened k (drop (i + 1) t)
  unfolding opened
  opened_on k e = rw (add-one, drop-cons t i 0 h, ne_eqb _ _ e)

  pub closing_past : (l : List ℕ) → closes (get_or t i 0) ≡ true
      → after_closing l (drop i t) ≡ after_closing (drop (i + 1) t) (drop (i + 1) t)
  unfolding after_closing
  closing_past l e = rw (add-one, drop-cons t i 0 h, e)

  pub closing_on : (l : List ℕ) → closes (get_or t i 0) ≡ false
      → after_closing l (drop i t) ≡ after_closing l (drop (i + 1) t)
  unfolding after_closing
  closing_on l e = rw (add-one, drop-cons t i 0 h, e)

  pub read_on : (m : ℕ) (s : Item) → goes_on (get_or t i 0) ≡ true
      → read m s (drop i t) ≡ read m (with_byte s (get_or t i 0)) (drop (i + 1) t)
  unfolding read
  read_on m s e = rw (add-one, drop-cons t i 0 h, e)

  pub read_off : (m : ℕ) (s : Item) → goes_on (get_or t i 0) ≡ false
      → read m s (drop i t) ≡ pending m s ++ read m gap (drop (i + 1) t)
  unfolding read
  read_off m s e = rw (add-one, drop-cons t i 0 h, e)

module _ (t : List ℕ) (i : ℕ) (h : length t ≤ i) where
  pub until_end : (b : ℕ) → length (until b (drop i t)) ≡ 0
  unfolding until
  until_end b = rw (drop_of_length-le t h)

  pub opened_end : (k : ℕ) → opened k (drop i t) ≡ drop i t
  unfolding opened
  opened_end k = rw (drop_of_length-le t h)

  pub closing_end : (l : List ℕ) → after_closing l (drop i t) ≡ l
  unfolding after_closing
  closing_end l = rw (drop_of_length-le t h)

  pub read_end : (m : ℕ) (s : Item) → read m s (drop i t) ≡ pending m s
  unfolding read
  read_end m s = rw (drop_of_length-le t h)

-- so many bytes as stand before b are those before b
pub take_until : (b : ℕ) (t : List ℕ) → take (length (until b t)) t ≡ until b t
unfolding until
take_until b [] = refl
take_until b (x ∷ t) = go (eqb x b) (take_until b t)
  where
    go : (q : Bool) → take (length (until b t)) t ≡ until b t
        → take (length (cond q [] (x ∷ until b t))) (x ∷ t) ≡ cond q [] (x ∷ until b t)
    go true e = refl
    go false e = ap (λ (r : List ℕ). x ∷ r) e

-- the whole of what follows a place
pub take_rest : (n : ℕ) (t : List ℕ) → take (length t - n) (drop n t) ≡ drop n t
take_rest n t = take_all (length t - n) (drop n t) (omega (arith, length-drop n t))

-- what stands from a place up to the first b
pub until_is : (b from to : ℕ) (t : List ℕ) → to ≡ from + length (until b (drop from t))
    → take (to - from) (drop from t) ≡ until b (drop from t)
until_is b from to t e =
    let n : to - from ≡ length (until b (drop from t)) = omega arith in
    rw n (take_until b (drop from t))

-- the text of a list, between its two brackets
pub bracketed_is : (from to k : ℕ) (t : List ℕ) → to ≡ from + length (until 93 (drop from t)) → drop from t ≡ opened k t
    → take (to - from) (drop from t) ≡ bracketed k t
bracketed_is from to k t e o = until_is 93 from to t e ∙ ap (until 93) o

-- what stands outside of lists, by the place where a space follows the last of them
pub spaced_is : (from to : ℕ) (t : List ℕ) → drop from t ≡ after_closing t t
    → to ≡ from + length (until 32 (drop from t)) → drop to t ≡ spaced t
spaced_is from to t o e =
    let n = length (until 32 (drop from t)) in
    ap (λ (k : ℕ). drop k t) e ∙ sym (drop-drop n from t)
    ∙ ap (λ (s : List ℕ). drop (length (until 32 s)) s) o

-- the laws of one loop each: `find`, `opening`, `tail`, and what reads numbers
pub ruleset untils = (until_stop, until_on, until_end)

pub ruleset openings = (opened_here, opened_past, opened_on, opened_end)

pub ruleset closings = (closing_past, closing_on, closing_end)

pub ruleset reads = (read_on, read_off, read_end)
