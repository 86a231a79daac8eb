-- The text in quotes, one piece after another, and a piece one byte after another.
-- Assumes nothing.
use mathlib.Core.Path.{◌≡◌, refl, sym, ap, ◌∙◌}
use mathlib.Core.Bool.{Bool, true, false, cond}
use mathlib.Core.List.{List, [], ◌∷◌, ◌++◌}
use Prim.Native.Nat.{ℕ, suc, ◌+◌, ◌-◌, ◌≤◌, ◌<◌}
use native.Mathlib.Numerals.{add-one}
use native.Mathlib.Omega.{arith}
use borrow.Author.Tests.{eq-eqb, ne_eqb}
use lib.Dec.{eqb}
use lib.ListN.{length, get_or, drop, length-drop, drop_of_length-le}
use lib.Seq.{drop-cons, drop-drop}
use Rattle.replay_reading.proofs.Texts.{take_rest}
use Rattle.replay_reading.specs.Text.{until, largest, numbers_in}
use Rattle.replay_texts.specs.Quoted.{onto, parts, unescaped, times_said, copies, pieces, quoted_in}

-- a text is the bytes before the first b, and what comes after those
pub parts_on : (b : ℕ) (t : List ℕ) → parts b t ≡ until b t ∷ drop 1 (parts b (drop (length (until b t)) t))
unfolding onto parts until
parts_on b [] = refl
parts_on b (x ∷ t) = go (eqb x b) refl (parts_on b t)
  where
    go : (q : Bool) → eqb x b ≡ q → parts b t ≡ until b t ∷ drop 1 (parts b (drop (length (until b t)) t))
        → parts b (x ∷ t) ≡ until b (x ∷ t) ∷ drop 1 (parts b (drop (length (until b (x ∷ t))) (x ∷ t)))
    go true e h = rw (e, e)
    go false e h = rw e (ap (onto x) h)

-- where there is a b, what comes after it
pub parts_next : (b : ℕ) (t : List ℕ) → length (until b t) < length t
    → parts b t ≡ until b t ∷ parts b (drop (suc (length (until b t))) t)
unfolding onto parts until
parts_next b [] h = absurd (omega arith)
parts_next b (x ∷ t) h = go (eqb x b) refl h (parts_next b t)
  where
    go : (q : Bool) → eqb x b ≡ q → length (until b (x ∷ t)) < suc (length t)
        → (length (until b t) < length t → parts b t ≡ until b t ∷ parts b (drop (suc (length (until b t))) t))
        → parts b (x ∷ t) ≡ until b (x ∷ t) ∷ parts b (drop (suc (length (until b (x ∷ t)))) (x ∷ t))
    go true e h f = rw e
    go false e h f =
        let k = rw e at h in
        rw e (ap (onto x) (f (omega arith)))

-- the same from a place on, up to the place where the first b stands
module _ (b : ℕ) (t : List ℕ) (from to : ℕ) (e : to ≡ from + length (until b (drop from t))) where
  abbrev ahead : List ℕ
  ahead = until b (drop from t)

  pub parts_up : parts b (drop from t) ≡ ahead ∷ drop 1 (parts b (drop to t))
  parts_up = parts_on b (drop from t) ∙ ap (λ (s : List ℕ). ahead ∷ drop 1 (parts b s)) there
    where
      there : drop (length ahead) (drop from t) ≡ drop to t
      there = drop-drop (length ahead) from t ∙ ap (λ (k : ℕ). drop k t) (sym e)

  pub parts_end : length t ≤ to → parts b (drop from t) ≡ ahead ∷ []
  unfolding parts
  parts_end h = parts_up ∙ rw (drop_of_length-le t h)

  pub parts_past : to < length t → parts b (drop from t) ≡ ahead ∷ parts b (drop (to + 1) t)
  parts_past h = parts_next b (drop from t) inside ∙ ap (λ (s : List ℕ). ahead ∷ parts b s) there
    where
      inside : length ahead < length (drop from t)
      inside = omega (arith, length-drop from t)

      there : drop (suc (length ahead)) (drop from t) ≡ drop (to + 1) t
      there =
          let k : from + suc (length ahead) ≡ to + 1 = omega arith in
          drop-drop (suc (length ahead)) from t ∙ ap (λ (n : ℕ). drop n t) k

-- a line's text: no quote is left; one that opens a piece
module _ (t : List ℕ) (from quote : ℕ) (o : quote ≡ from + length (until 34 (drop from t))) where
  pub quoted_none : length t ≤ quote → quoted_in (drop from t) ≡ []
  unfolding pieces
  quoted_none h = ap (λ l. pieces (drop 1 l)) (parts_end 34 t from quote o h)

  module _ (h : quote < length t) (end : ℕ) (e : end ≡ quote + 1 + length (until 34 (drop (quote + 1) t))) where
    opens : quoted_in (drop from t) ≡ pieces (parts 34 (drop (quote + 1) t))
    opens = ap (λ l. pieces (drop 1 l)) (parts_past 34 t from quote o h)

    pub quoted_open : length t ≤ end → quoted_in (drop from t) ≡ []
    unfolding pieces
    quoted_open l = opens ∙ ap pieces (parts_end 34 t (quote + 1) end e l)

    pub quoted_next : end < length t → (next : ℕ) → next ≡ end + 1 + length (until 34 (drop (end + 1) t))
        → quoted_in (drop from t)
        ≡ copies (times_said (until 34 (drop (end + 1) t))) (unescaped (until 34 (drop (quote + 1) t)))
        ++ quoted_in (drop next t)
    unfolding pieces
    quoted_next l next x =
        let p : List ℕ = until 34 (drop (quote + 1) t) in
        opens
        ∙ ap pieces (parts_past 34 t (quote + 1) end e l)
        ∙ ap (λ s. pieces (p ∷ s)) (parts_up 34 t (end + 1) next x)

-- a piece as often as asked: so often as is left, or not at all
module _ (n k : ℕ) (l : List ℕ) where
  pub copies_next : k < n → copies (n - k) l ≡ l ++ copies (n - (k + 1)) l
  unfolding copies
  copies_next h =
      let e : n - k ≡ suc (n - (k + 1)) = omega arith in
      rw e

  pub copies_done : n ≤ k → copies (n - k) l ≡ []
  unfolding copies
  copies_done h =
      let e : n - k ≡ 0 = omega arith in
      rw e

-- a piece from place i on
unescaped_first : (x : ℕ) (t : List ℕ)
    → unescaped (x ∷ t) ≡ cond (eqb x 92) (10 ∷ unescaped (drop 1 t)) (x ∷ unescaped t)
unfolding unescaped
unescaped_first x [] = refl
unescaped_first x (y ∷ t) = refl

module _ (t : List ℕ) (i : ℕ) (h : i < length t) where
  pub escape_next : get_or t i 0 ≡ 92 → unescaped (drop i t) ≡ (10 ∷ []) ++ unescaped (drop (i + 2) t)
  escape_next e =
      let k : suc i + 1 ≡ i + 2 = omega arith in
      let d = drop-drop 1 (suc i) t ∙ ap (λ (n : ℕ). drop n t) k in
      ap unescaped (drop-cons t i 0 h)
      ∙ unescaped_first (get_or t i 0) (drop (suc i) t)
      ∙ rw (eq-eqb _ _ e) (ap (λ (s : List ℕ). 10 ∷ unescaped s) d)

  pub itself_next : (get_or t i 0 ≡ 92 → ⊥) → unescaped (drop i t) ≡ (get_or t i 0 ∷ []) ++ unescaped (drop (i + 1) t)
  itself_next e =
      ap unescaped (drop-cons t i 0 h)
      ∙ unescaped_first (get_or t i 0) (drop (suc i) t)
      ∙ rw (ne_eqb _ _ e, add-one)

pub unescaped_end : (t : List ℕ) (i : ℕ) → length t ≤ i → unescaped (drop i t) ≡ []
unfolding unescaped
unescaped_end t i h = rw (drop_of_length-le t h)

-- how often a piece stands there, by what follows it
pub times_none : (t : List ℕ) → length t ≡ 0 → times_said t ≡ 1
unfolding times_said
times_none [] h = refl
times_none (x ∷ t) h = absurd (omega arith)

module _ (t : List ℕ) (h : 0 < length t) where
  pub times_star : get_or t 0 0 ≡ 42 → times_said t ≡ get_or (numbers_in largest (drop 1 t)) 0 0
  unfolding times_said
  times_star e = ap times_said (drop-cons t 0 0 h) ∙ rw (eq-eqb _ _ e)

  pub times_once : (get_or t 0 0 ≡ 42 → ⊥) → times_said t ≡ 1
  unfolding times_said
  times_once e = ap times_said (drop-cons t 0 0 h) ∙ rw (ne_eqb _ _ e)

-- the laws of `times_of`
pub ruleset times = (times_none, times_star, times_once, take_rest)
