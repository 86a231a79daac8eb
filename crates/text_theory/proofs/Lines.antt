-- Lines of a text: whether a text begins with some bytes, what follows a line, and the numbers that are read of one.
-- Assumes nothing.
use mathlib.Core.Path.{◌≡◌, refl, sym, ap, ◌∙◌}
use mathlib.Core.Logic.{◌↔◌, ◌⊎◌, inl, inr}
use mathlib.Core.Bool.{true, true≢false}
use mathlib.Core.List.{List, [], ◌∷◌, ◌++◌, append_assoc, append-nil}
use Prim.Native.Nat.{ℕ, zero, suc, ◌+◌, ◌-◌, ◌*◌, ◌<◌}
use native.Mathlib.Omega.{arith}
use borrow.Author.Tests.{eqb-true, eq-eqb, ne_eqb, ltb-true, lt-ltb}
use lib.Dec.{eqb, ltb}
use lib.ListN.{length, get_or, drop}
use lib.Seq.{drop-append_seam}
use Rattle.order.specs.Lists.{In}
use Rattle.order.proofs.Tests.{and_true}
use Rattle.listing.specs.Layers.{Layers}
use Rattle.text_theory.specs.Text.{text_width, newline, comma, numeral, parted, commas, Line, line_bytes}
use Rattle.text_theory.specs.Text.{rank_key, count_key, subs_key, line_of, line_at, spot}
use Rattle.text_theory.specs.Said.{after_line, values_from, values, value, begins, numbers_fit}
use Rattle.text_theory.specs.Digits.{digits_in, valued}
use Rattle.text_theory.specs.Places.{Begins, NumbersFit}
use Rattle.text_theory.proofs.Digits.{digit_range, digits_each}
use Rattle.text_theory.proofs.Numerals.{numeral_own, numeral_value, numeral_some}

-- ---- the beginning of a text, and numbers that a text can have

-- what stands before both is passed over
pub begins_past : (p q t : List ℕ) → begins (p ++ q) (p ++ t) ≡ begins q t
unfolding begins
begins_past [] q t = refl
begins_past (x ∷ p) q t = rw (eq-eqb x x refl) (begins_past p q t)

begins_to : (p t : List ℕ) → begins p t ≡ true → Begins p t
unfolding begins
begins_to [] t e = (t, refl)
begins_to (x ∷ p) [] e = absurd (true≢false (sym e))
begins_to (x ∷ p) (y ∷ t) e =
    let a = and_true (eqb x y) (begins p t) e in
    let q = sym (eqb-true x y a.0) in
    let r = begins_to p t a.1 in
    (r.0, λ i. q i ∷ r.1 i)

begins_back : (p t : List ℕ) → Begins p t → begins p t ≡ true
unfolding begins
begins_back p t r = rw r.1 (ap (λ (q : List ℕ). begins q (p ++ r.0)) (sym (append-nil p)) ∙ begins_past p [] r.0)

pub begins_exact : (p t : List ℕ) → (begins p t ≡ true) ↔ Begins p t
begins_exact p t = (begins_to p t, begins_back p t)

pub begins_split : (p t : List ℕ) → begins p t ≡ true → t ≡ p ++ drop (length p) t
begins_split p t e =
    let r = begins_to p t e in
    r.1 ∙ ap (λ (s : List ℕ). p ++ s) (sym (ap (drop (length p)) r.1 ∙ drop-append_seam p r.0))

fit_to : (l : List ℕ) → numbers_fit l ≡ true → NumbersFit l
unfolding numbers_fit In
fit_to [] e x m = absurd m
fit_to (y ∷ l) e x (inl q) = rw q (ltb-true y text_width (and_true (ltb y text_width) (numbers_fit l) e).0)
fit_to (y ∷ l) e x (inr m) = fit_to l (and_true (ltb y text_width) (numbers_fit l) e).1 x m

fit_back : (l : List ℕ) → NumbersFit l → numbers_fit l ≡ true
unfolding numbers_fit In
fit_back [] h = refl
fit_back (y ∷ l) h = rw (lt-ltb y text_width (h y (inl refl))) (fit_back l (λ x m. h x (inr m)))

pub fit_exact : (l : List ℕ) → (numbers_fit l ≡ true) ↔ NumbersFit l
fit_exact l = (fit_to l, fit_back l)

-- ---- a line has one of three keys

abbrev pub Keyed : Line → Type 0
Keyed l = (l.key ≡ rank_key) ⊎ ((l.key ≡ count_key) ⊎ (l.key ≡ subs_key))

pub line_keyed : (M : Layers) (k : ℕ) → Keyed (line_at M k)
unfolding line_at line_of
line_keyed M zero = inl refl
line_keyed M (suc k) = go (spot M k)
  where
    go : (p : ℕ × ℕ) → Keyed (line_of M p)
    go (r, zero) = inr (inl refl)
    go (r, suc i) = inr (inr refl)

-- ---- what follows a line

pub after_stop : (x : ℕ) (t : List ℕ) → x ≡ newline → after_line (x ∷ t) ≡ t
unfolding after_line
after_stop x t e = rw (eq-eqb x newline e)

pub after_on : (x : ℕ) (t : List ℕ) → (x ≡ newline → ⊥) → after_line (x ∷ t) ≡ after_line t
unfolding after_line
after_on x t h = rw (ne_eqb x newline h)

pub after_digits : (d t : List ℕ) → d ≡ digits_in d → after_line (d ++ t) ≡ after_line t
after_digits [] t e = refl
after_digits (x ∷ d) t e =
    let p = digits_each x d e in
    let r = digit_range x p.0 in
    after_on x (d ++ t) (λ q. omega arith) ∙ after_digits d t p.1

pub after_keyed : (l : Line) (t : List ℕ) → Keyed l → after_line (l.key ++ t) ≡ after_line t
unfolding after_line
after_keyed l t (inl e) = rw e
after_keyed l t (inr (inl e)) = rw e
after_keyed l t (inr (inr e)) = rw e

pub after_key : (l : Line) (t : List ℕ) → Keyed l → begins l.key t ≡ true
    → after_line t ≡ after_line (drop (length l.key) t)
after_key l t k e = ap after_line (begins_split l.key t e) ∙ after_keyed l (drop (length l.key) t) k

after_number : (n : ℕ) (s t : List ℕ) → after_line ((numeral n ++ s) ++ t) ≡ after_line (s ++ t)
after_number n s t =
    ap after_line (append_assoc (numeral n) s t) ∙ after_digits (numeral n) (s ++ t) (numeral_own n)

after_parted : (l : List ℕ) (t : List ℕ) → after_line (parted l ++ t) ≡ after_line t
unfolding parted
after_parted [] t = refl
after_parted (n ∷ l) t =
    after_on comma _ (λ q. omega arith) ∙ after_number n (parted l) t ∙ after_parted l t

after_commas : (l : List ℕ) (t : List ℕ) → after_line (commas l ++ t) ≡ after_line t
unfolding commas
after_commas [] t = refl
after_commas (n ∷ l) t = after_number n (parted l) t ∙ after_parted l t

-- a line, and what follows it: first its key, then its numbers, then the newline
pub line_bytes_is : (l : Line) (t : List ℕ) → line_bytes l ++ t ≡ l.key ++ (commas l.numbers ++ (newline ∷ t))
unfolding line_bytes
line_bytes_is l t = simp append_assoc

pub after_bytes : (l : Line) (t : List ℕ) → Keyed l → after_line (line_bytes l ++ t) ≡ t
after_bytes l t k =
    ap after_line (line_bytes_is l t) ∙ after_keyed l (commas l.numbers ++ (newline ∷ t)) k
    ∙ after_commas l.numbers (newline ∷ t) ∙ after_stop newline t refl

-- ---- the numbers that are read of a line

pub from_stop : (v x : ℕ) (t : List ℕ) → x ≡ newline → values_from v (x ∷ t) ≡ v ∷ []
unfolding values_from
from_stop v x t e = rw (eq-eqb x newline e)

pub from_next : (v x : ℕ) (t : List ℕ) → x ≡ comma → values_from v (x ∷ t) ≡ v ∷ values_from 0 t
unfolding values_from
from_next v x t e = rw (ne_eqb x newline (λ q. omega arith), eq-eqb x comma e)

pub from_digits : (v : ℕ) (d t : List ℕ) → d ≡ digits_in d → values_from v (d ++ t) ≡ values_from (valued v d) t
unfolding values_from valued
from_digits v [] t e = refl
from_digits v (x ∷ d) t e =
    let p = digits_each x d e in
    let r = digit_range x p.0 in
    rw (ne_eqb x newline (λ q. omega arith), ne_eqb x comma (λ q. omega arith))
    (from_digits (10 * v + (x - 48)) d t p.1)

pub from_numeral : (n : ℕ) (t : List ℕ) → values_from 0 (numeral n ++ t) ≡ values_from n t
from_numeral n t = from_digits 0 (numeral n) t (numeral_own n) ∙ ap (λ (v : ℕ). values_from v t) (numeral_value n)

from_number : (n : ℕ) (s t : List ℕ) → values_from 0 ((numeral n ++ s) ++ t) ≡ values_from n (s ++ t)
from_number n s t = ap (values_from 0) (append_assoc (numeral n) s t) ∙ from_numeral n (s ++ t)

from_parted : (n : ℕ) (l t : List ℕ) → values_from n (parted l ++ (newline ∷ t)) ≡ n ∷ l
unfolding parted
from_parted n [] t = from_stop n newline t refl
from_parted n (m ∷ l) t =
    from_next n comma _ refl
    ∙ ap (λ (s : List ℕ). n ∷ s) (from_number m (parted l) (newline ∷ t) ∙ from_parted m l t)

from_commas : (n : ℕ) (l t : List ℕ) → values_from 0 (commas (n ∷ l) ++ (newline ∷ t)) ≡ n ∷ l
unfolding commas
from_commas n l t = from_number n (parted l) (newline ∷ t) ∙ from_parted n l t

values_digits : (d t : List ℕ) → d ≡ digits_in d → 0 < length d → values (d ++ t) ≡ values_from 0 (d ++ t)
unfolding values
values_digits [] t e h = absurd (omega arith)
values_digits (x ∷ d) t e h =
    let r = digit_range x (digits_each x d e).0 in
    rw (ne_eqb x newline (λ q. omega arith))

values_commas : (l t : List ℕ) → values (commas l ++ (newline ∷ t)) ≡ l
unfolding values commas
values_commas [] t = refl
values_commas (n ∷ l) t =
    let a = append_assoc (numeral n) (parted l) (newline ∷ t) in
    ap values a ∙ values_digits (numeral n) _ (numeral_own n) (numeral_some n)
    ∙ ap (values_from 0) (sym a) ∙ from_commas n l t

-- behind the key of a line
pub past_key : (l : Line) (t : List ℕ)
    → drop (length l.key) (line_bytes l ++ t) ≡ commas l.numbers ++ (newline ∷ t)
past_key l t = ap (drop (length l.key)) (line_bytes_is l t) ∙ drop-append_seam l.key _

pub values_bytes : (l : Line) (t : List ℕ) → values (drop (length l.key) (line_bytes l ++ t)) ≡ l.numbers
values_bytes l t = ap values (past_key l t) ∙ values_commas l.numbers t

pub value_bytes : (l : Line) (t : List ℕ) (n : ℕ) → l.numbers ≡ n ∷ []
    → value (drop (length l.key) (line_bytes l ++ t)) ≡ n
value_bytes l t n e =
    ap value (past_key l t) ∙ ap (λ (s : List ℕ). value (commas s ++ (newline ∷ t))) e
    ∙ ap (λ (s : List ℕ). get_or s 0 0) (from_commas n [] t)
