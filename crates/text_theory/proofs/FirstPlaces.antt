-- The number that a text is answered with tells where it first goes wrong: of a text that is not too long it is the
-- number of what follows the longest run of good lines; it says that the text is too long exactly if it is; and it is
-- all that is answered.
-- Assumes nothing.
use mathlib.Core.Path.{◌≡◌, refl, sym, ap, ◌∙◌, subst}
use mathlib.Core.Logic.{◌↔◌, inl, inr, ⊎_elim}
use mathlib.Core.Bool.{not, ◌&&◌}
use mathlib.Core.List.{List, [], ◌∷◌}
use Prim.Native.Nat.{ℕ, suc, ◌≤◌, ◌<◌}
use native.Mathlib.Decide.{dec_lt}
use native.Mathlib.Omega.{arith}
use lib.Dec.{ltb}
use lib.ListN.{length}
use Rattle.listing.specs.Refusals.{wrong_key, bad_line, long_text, more_bytes}
use Rattle.listing.specs.Answers.{plain}
use Rattle.listing.specs.Listing.{Limits}
use Rattle.listing.specs.Layers.{Layers}
use Rattle.listing.proofs.Clear.{Plain, plain_on, plain_or, plain_of}
use Rattle.text_theory.specs.Text.{Line, line_bytes, line_at, line_count}
use Rattle.text_theory.specs.Said.{from_line, said, begins, numbers_fit, form_test, bound_at, line_test, text_test}
use Rattle.text_theory.specs.Places.{Begins, GoodLines, Run, Whole, BytesLeft, OffKey, OffForm, OffLimit, Then}
use Rattle.text_theory.specs.Places.{FirstPlace}
use Rattle.text_theory.proofs.Runs.{from_rest, run_bound, run_below, run_key, run_count}
use Rattle.text_theory.proofs.Forms.{goes_key, bound_numbers}
use Rattle.text_theory.proofs.Forms.{off_key, off_form, off_limit, good}
use Rattle.text_theory.proofs.Good.{GoesAt, goes_more, Found, found, passed, passed_run, lines_go, run_passes}
use Rattle.text_theory.proofs.TextTest.{any_first, text_long, text_stops, text_passes, text_more}

-- ---- what follows a run is what the test finds

module _ (m : Limits) (t : List ℕ) (h : length t ≤ m.text) (M : Layers) (k : ℕ) (rest : List ℕ)
    (r : Run m t M k rest) (n : ℕ) where
  left : from_line t k ≡ rest
  left = from_rest t M k rest r.good.text

  counted : k ≡ line_count M → line_count (said t) ≡ k
  counted p = run_count t M k rest r.good.there r.good.text p

  below : k < line_count M → k < line_count (said t)
  below p = run_below t M k rest r.good.there r.good.text p

  passes : (j : ℕ) → j < k → (line_test m t j).no ≡ 0
  passes = run_passes m t M k rest r

  -- the line after them decides
  decides : k < line_count M → (x : ℕ) → 0 < x → (line_test m t k).no ≡ x → n ≡ x → (text_test m t).no ≡ n
  decides p x s e z = text_stops m t h k (below p) passes (λ w. omega arith) ∙ e ∙ sym z

  whole_is : Whole m t M k rest n → (text_test m t).no ≡ n
  whole_is (p, q, z) =
      text_passes m t h (λ j l. passes j (omega (arith, counted p))) (ap (from_line t) (counted p) ∙ left ∙ q) ∙ sym z

  long_is : BytesLeft m t M k rest n → (text_test m t).no ≡ n
  long_is (p, q, z) =
      text_more m t h (λ j l. passes j (omega (arith, counted p)))
      (λ e. q (sym left ∙ ap (from_line t) (sym (counted p)) ∙ e)) ∙ sym z

  -- the key of the line after them
  next_key : k < line_count M → (line_at (said t) k).key ≡ (line_at M k).key
  next_key p = run_key t M k rest r.good.there r.good.text p

  key_goes : k < line_count M → GoesAt t k → Begins (line_at M k).key rest
  key_goes p g = rw (next_key p, left) at (goes_key (line_at (said t) k) (from_line t k) g)

  key_is : OffKey m t M k rest n → (text_test m t).no ≡ n
  key_is (p, q, z) = decides p wrong_key (omega arith) (go (found m t k)) z
    where
      go : Found m t k → (line_test m t k).no ≡ wrong_key
      go (off_key b e) = e
      go (off_form b g e) = absurd (q (rw (next_key p, left) at b))
      go (off_limit g o e) = absurd (q (key_goes p g))
      go (good g o e) = absurd (q (key_goes p g))

  -- and if that is good too
  goes_one : k < line_count M → GoesAt t k → GoodLines t (said t) (suc k) (from_line t (suc k))
  goes_one p g = goes_more t k (below p) (lines_go t M k rest r.good) g

  form_is : OffForm m t M k rest n → (text_test m t).no ≡ n
  form_is (p, b, q, z) = decides p bad_line (omega arith) (go (found m t k)) z
    where
      go : Found m t k → (line_test m t k).no ≡ bad_line
      go (off_key c e) = absurd (c (rw (next_key p, left) b))
      go (off_form c g e) = e
      go (off_limit g o e) = absurd (q (said t) _ (goes_one p g))
      go (good g o e) = absurd (q (said t) _ (goes_one p g))

  limit_is : OffLimit m t M k rest n → (text_test m t).no ≡ n
  limit_is ((s, g), o, z) =
      decides g.there (bound_at m M k).no (omega (arith, bound_numbers m M k)) (go (found m t k)) z
    where
      goes : GoesAt t k
      goes = lines_go t M (suc k) s g k (omega arith)

      same : bound_at m (said t) k ≡ bound_at m M k
      same = run_bound t M (suc k) s g.there g.text m k (omega arith)

      go : Found m t k → (line_test m t k).no ≡ (bound_at m M k).no
      go (off_key c e) = absurd (c (goes_key (line_at (said t) k) (from_line t k) goes))
      go (off_form c f e) = absurd (f goes)
      go (off_limit f c e) = e ∙ ap (λ b. b.no) same
      go (good f c e) = absurd (omega (arith, ap (λ b. b.most) same, ap (λ b. b.amount) same))

  then_is : Then m t M k rest n → (text_test m t).no ≡ n
  then_is (inl w) = whole_is w
  then_is (inr (inl w)) = long_is w
  then_is (inr (inr (inl w))) = key_is w
  then_is (inr (inr (inr (inl w)))) = form_is w
  then_is (inr (inr (inr (inr w)))) = limit_is w

-- ---- what the test finds follows a run

module _ (m : Limits) (t : List ℕ) (h : length t ≤ m.text) where
  -- all lines are good
  place_last : ((j : ℕ) → j < line_count (said t) → (line_test m t j).no ≡ 0) → FirstPlace m t (text_test m t).no
  place_last p = record {
    meant = said t;
    lines = line_count (said t);
    rest = from_line t (line_count (said t));
    run = passed_run m t (line_count (said t)) (omega arith) p;
    next = go (from_line t (line_count (said t))) refl;
  }
    where
      go : (l : List ℕ) → from_line t (line_count (said t)) ≡ l
          → Then m t (said t) (line_count (said t)) (from_line t (line_count (said t))) (text_test m t).no
      go [] e = inl (refl, e, text_passes m t h p e)
      go (x ∷ l) e = inr (inl (refl, some, text_more m t h p some))
        where
          some : ¬ (from_line t (line_count (said t)) ≡ [])
          some z = absurd (omega (arith, ap length (sym z ∙ e)))

  -- line k is the first that is not
  module _ (k : ℕ) (l : k < line_count (said t)) (p : (j : ℕ) → j < k → (line_test m t j).no ≡ 0)
      (s : (line_test m t k).no ≡ 0 → ⊥) where
    line_decides : (text_test m t).no ≡ (line_test m t k).no
    line_decides = text_stops m t h k l p s

    then_line : Found m t k → Then m t (said t) k (from_line t k) (text_test m t).no
    then_line (off_key b e) = inr (inr (inl (l, b, line_decides ∙ e)))
    then_line (off_form b g e) = inr (inr (inr (inl (l, b, none, line_decides ∙ e))))
      where
        none : (N : Layers) (u : List ℕ) → ¬ GoodLines t N (suc k) u
        none N u f = g (lines_go t N (suc k) u f k (omega arith))
    then_line (off_limit g o e) =
        let f = goes_more t k l (λ j a. (passed m t j (p j a)).0) g in
        inr (inr (inr (inr ((from_line t (suc k), f), o, line_decides ∙ e))))
    then_line (good g o e) = absurd (s e)

    place_line : FirstPlace m t (text_test m t).no
    place_line = record {
      meant = said t;
      lines = k;
      rest = from_line t k;
      run = passed_run m t k (omega arith) p;
      next = then_line (found m t k);
    }

  place : FirstPlace m t (text_test m t).no
  place =
      ⊎_elim place_last (λ w. place_line w.0 w.1 w.2 w.3)
      (any_first (line_test m t) (line_count (said t)))

  pub first_place : (n : ℕ) → FirstPlace m t n ↔ ((text_test m t).no ≡ n)
  first_place n =
      (λ p. then_is m t h p.meant p.lines p.rest p.run n p.next, λ e. subst (FirstPlace m t) e place)

-- ---- too long a text

-- no line is refused as too long
then_short : (m : Limits) (t : List ℕ) (M : Layers) (k : ℕ) (rest : List ℕ) (n : ℕ) → Then m t M k rest n
    → ¬ (n ≡ long_text)
then_short m t M k rest n (inl w) e = omega (arith, w.2)
then_short m t M k rest n (inr (inl w)) e = omega (arith, w.2)
then_short m t M k rest n (inr (inr (inl w))) e = omega (arith, w.2)
then_short m t M k rest n (inr (inr (inr (inl w)))) e = omega (arith, w.3)
then_short m t M k rest n (inr (inr (inr (inr w)))) e = omega (arith, w.2, bound_numbers m M k)

pub over_long : (m : Limits) (t : List ℕ) → ((text_test m t).no ≡ long_text) ↔ (m.text < length t)
over_long m t = (go (dec_lt m.text (length t)), text_long m t)
  where
    go : Dec (m.text < length t) → (text_test m t).no ≡ long_text → m.text < length t
    go (yes l) e = l
    go (no l) e =
        let p = (first_place m t (omega arith) (text_test m t).no).1 refl in
        absurd (then_short m t p.meant p.lines p.rest (text_test m t).no p.next e)

-- ---- a number is all that is answered

form_plain : (l : Line) (t : List ℕ) → Plain (form_test l t)
unfolding form_test
form_plain l t =
    plain_or _ _ (plain_on (not (begins l.key t)) wrong_key)
    (plain_on (not (begins (line_bytes l) t && numbers_fit l.numbers)) bad_line)

module _ (m : Limits) (t : List ℕ) where
  line_plain : (k : ℕ) → Plain (line_test m t k)
  line_plain k =
      let b = bound_at m (said t) k in
      plain_or _ _ (form_plain (line_at (said t) k) (from_line t k)) (plain_on (ltb b.most b.amount) b.no)

  pub text_plain : text_test m t ≡ plain (text_test m t).no
  unfolding text_test
  text_plain =
      let n = line_count (said t) in
      plain_or _ _ (plain_on (ltb m.text (length t)) long_text)
      (plain_or _ _ (plain_of (line_test m t) line_plain 0 n) (plain_on (ltb 0 (length (from_line t n))) more_bytes))
