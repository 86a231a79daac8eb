-- What the test of a line finds: it does not begin with its key, or is else not as it is written, or passes a limit, or
-- none of these; with the number that says so.
-- Assumes nothing.
use mathlib.Core.Path.{◌≡◌, refl, sym, ◌∙◌}
use mathlib.Core.Logic.{◌↔◌}
use mathlib.Core.Bool.{Bool, true, false, true≢false, ◌&&◌}
use mathlib.Core.List.{List, [], ◌∷◌, ◌++◌, append_assoc}
use Prim.Native.Nat.{ℕ, zero, suc, ◌≤◌, ◌<◌}
use native.Mathlib.Omega.{arith}
use borrow.Author.Tests.{ltb-true, ltb-false, not-false}
use lib.Dec.{ltb}
use Rattle.order.proofs.Tests.{and_true}
use Rattle.listing.specs.Refusals.{wrong_key, bad_line}
use Rattle.listing.specs.Answers.{plain, ◌or_else◌}
use Rattle.listing.specs.Listing.{Limits}
use Rattle.listing.specs.Layers.{Layers}
use Rattle.listing.proofs.Answers.{or_no, on_no}
use Rattle.text_theory.specs.Text.{newline, commas, Line, line_bytes, spot}
use Rattle.text_theory.specs.Said.{begins, numbers_fit, form_test, Bound, bound_of, bound_at, bound_test}
use Rattle.text_theory.specs.Places.{Begins, NumbersFit}
use Rattle.text_theory.proofs.Lines.{begins_exact, fit_exact}

-- a text goes on with a line, and can have its numbers
abbrev pub Goes : Line → List ℕ → Type 0
Goes l t = Begins (line_bytes l) t × NumbersFit l.numbers

pub goes_key : (l : Line) (t : List ℕ) → Goes l t → Begins l.key t
unfolding line_bytes
goes_key l t ((s, e), n) =
    (commas l.numbers ++ (newline ∷ []) ++ s, e ∙ append_assoc l.key (commas l.numbers ++ (newline ∷ [])) s)

pub data Judged (l : Line) (b : Bound) (t : List ℕ) (n : ℕ) : Type 0 where
  off_key : ¬ Begins l.key t → n ≡ wrong_key → Judged l b t n
  off_form : Begins l.key t → ¬ Goes l t → n ≡ bad_line → Judged l b t n
  off_limit : Goes l t → b.most < b.amount → n ≡ b.no → Judged l b t n
  good : Goes l t → b.amount ≤ b.most → n ≡ 0 → Judged l b t n

module _ (l : Line) (t : List ℕ) where
  yes_goes : begins (line_bytes l) t && numbers_fit l.numbers ≡ true → Goes l t
  yes_goes e =
      let p = and_true (begins (line_bytes l) t) (numbers_fit l.numbers) e in
      ((begins_exact (line_bytes l) t).0 p.0, (fit_exact l.numbers).0 p.1)

  goes_yes : Goes l t → begins (line_bytes l) t && numbers_fit l.numbers ≡ true
  goes_yes (p, q) = rw ((begins_exact (line_bytes l) t).1 p, (fit_exact l.numbers).1 q)

  form_goes : (form_test l t).no ≡ 0 → Goes l t
  unfolding form_test
  form_goes e = yes_goes (not-false _ (on_no _ (plain bad_line) (λ q. omega arith) (or_no _ _ e).1))

  pub form_exact : ((form_test l t).no ≡ 0) ↔ Goes l t
  unfolding form_test ◌or_else◌
  form_exact = (form_goes, λ h. rw ((begins_exact l.key t).1 (goes_key l t h), goes_yes h))

  pub judged : (b : Bound) → Judged l b t (form_test l t or_else bound_test b).no
  unfolding form_test ◌or_else◌
  judged b =
      go (begins l.key t) (begins (line_bytes l) t && numbers_fit l.numbers) (ltb b.most b.amount)
      refl refl refl
    where
      go : (k f o : Bool) → begins l.key t ≡ k → begins (line_bytes l) t && numbers_fit l.numbers ≡ f
          → ltb b.most b.amount ≡ o → Judged l b t (form_test l t or_else bound_test b).no
      go false f o p q r = off_key (λ h. true≢false (sym ((begins_exact l.key t).1 h) ∙ p)) (rw p)
      go true false o p q r =
          off_form ((begins_exact l.key t).0 p) (λ h. true≢false (sym (goes_yes h) ∙ q)) (rw (p, q))
      go true true true p q r = off_limit (yes_goes q) (ltb-true _ _ r) (rw (p, q, r))
      go true true false p q r = good (yes_goes q) (ltb-false _ _ r) (rw (p, q, r))

-- the limits are refused by numbers from 2 to 5
pub bound_numbers : (m : Limits) (M : Layers) (k : ℕ) → (2 ≤ (bound_at m M k).no) × ((bound_at m M k).no ≤ 5)
unfolding bound_at bound_of
bound_numbers m M zero = omega arith
bound_numbers m M (suc k) = of (spot M k)
  where
    of : (x : ℕ × ℕ) → (2 ≤ (bound_of m M x).no) × ((bound_of m M x).no ≤ 5)
    of (r, zero) = omega arith
    of (r, suc i) = omega arith
