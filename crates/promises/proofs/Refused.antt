-- Each answer that refuses is that of a refusal, and so what an fd_ function answers is what some result is told as.
-- Assumes nothing.
use mathlib.Core.Path.{◌≡◌, refl, sym, ap, ◌∙◌}
use mathlib.Core.Logic.{◌≢◌, ◌⊎◌, inl, inr}
use mathlib.Core.Bool.{Bool, ◌||◌}
use mathlib.Core.List.{List, [], ◌∷◌}
use Prim.Native.Nat.{ℕ, zero, suc, ◌+◌, ◌-◌, ◌≤◌}
use native.Mathlib.Omega.{arith}
use borrow.Author.Tests.{ne_eqb}
use lib.Dec.{ltb}
use lib.ListN.{length}
use Rattle.std.proofs.Common.{Result, Ok, Err}
use Rattle.std.specs.Result.{IfOk}
use Rattle.listing.specs.declared.Answer.{Answer}
use Rattle.listing.specs.declared.Built.{Built}
use Rattle.listing.specs.declared.Element.{Element}
use Rattle.listing.specs.declared.Lengths.{Lengths}
use Rattle.listing.specs.declared.Side.TheVariants.{Subs, Sups}
use Rattle.listing.specs.declared.Refusal.{Refusal}
use Rattle.listing.specs.declared.Refusal.TheVariants.{NoRanks, OverRanks, OverElements, WrongEnds, OverIncidences}
use Rattle.listing.specs.declared.Refusal.TheVariants.{FallingEnds, NotBounded, Bare, NotBack, Missing, ThirdBetween}
use Rattle.listing.specs.declared.Refusal.TheVariants.{LoneBetween, NotAscending, NotAFlag, OutsideRanks, MoreFlags}
use Rattle.listing.specs.declared.Refusal.TheVariants.{SeveralParts, OutputShort}
use Rattle.listing.specs.declared.Refusal.TheVariants.{WrongKey, BadLine, LongText, MoreBytes}
use Rattle.listing.specs.Refusals.{output_short}
use Rattle.listing.specs.Answers.{plain, fine, on, ◌or_else◌}
use Rattle.listing.specs.Listing.{Listing, Limits, limits, rank, count}
use Rattle.listing.specs.Told.{answer_of, told, told_number, told_built}
use Rattle.listing.proofs.Answers.{if_not}
use Rattle.listing.proofs.Broken.{zero_or}
use Rattle.listing.proofs.Clear.{Clear, Plain, clear_plain}
use Rattle.listing_shape.specs.Counts.{counted}
use Rattle.listing_outputs.specs.Output.{room_test, short_test, built_of, Made}
use Rattle.valid.specs.Tests as tests
use Rattle.text_theory.specs.Said.{bound_of, bound_at, form_test, bound_test, line_test, text_test, said}
use Rattle.text_theory.specs.Text.{Line, spot, line_count}
use Rattle.promises.specs.Named.{Named, of_shape, of_flags, named_not_bounded, named_no_subs, named_no_sups}
use Rattle.promises.specs.Named.{named_sub_not_back, named_sup_not_back, named_sub_missing, named_sup_missing}
use Rattle.promises.specs.Named.{named_third_between, named_lone_between, named_not_ascending, named_several_parts}
use Rattle.promises.proofs.Firsts.{Tells, tells_or, tells_on, tells_of}
use Rattle.promises.proofs.NamedTests.{closed_named}

-- an answer that a refusal has
abbrev pub OfRefusal : Answer → Type 0
OfRefusal a = (d : Refusal) × (a ≡ answer_of d)

abbrev pub Refused : Answer → Type 0
Refused = Tells OfRefusal

-- ---- what names elements

of_six : (n : ℕ) → 1 ≤ n → n ≤ 6 → OfRefusal (plain n)
of_six zero p q = absurd (omega arith)
of_six (suc zero) p q = (NoRanks, refl)
of_six (suc (suc zero)) p q = (OverRanks, refl)
of_six (suc (suc (suc zero))) p q = (OverElements, refl)
of_six (suc (suc (suc (suc zero)))) p q = (WrongEnds, refl)
of_six (suc (suc (suc (suc (suc zero))))) p q = (OverIncidences, refl)
of_six (suc (suc (suc (suc (suc (suc zero)))))) p q = (FallingEnds, refl)
of_six (suc (suc (suc (suc (suc (suc (suc n))))))) p q = absurd (omega arith)

from_twenty : (n k : ℕ) → n ≡ 20 + k → n ≤ 22 → OfRefusal (plain n)
from_twenty n zero e q = (NotAFlag, ap plain e)
from_twenty n (suc zero) e q = (OutsideRanks, ap plain e)
from_twenty n (suc (suc zero)) e q = (MoreFlags, ap plain e)
from_twenty n (suc (suc (suc k))) e q = absurd (omega arith)

abbrev element : ℕ → ℕ → Element
element r i = record { rank = r; index = i }

pub named_refused : (h : ℕ) (L : Listing) {a : Answer} → Named h L a → OfRefusal a
named_refused h L (of_shape n p q) = of_six n p q
named_refused h L (named_not_bounded b) = (NotBounded (count L 0) (count L (rank L)), refl)
named_refused h L (named_no_subs r i F p e) = (Bare (element r i) Subs, refl)
named_refused h L (named_no_sups r i F l p e) = (Bare (element r i) Sups, refl)
named_refused h L (named_sub_not_back r i x F K p q n) = (NotBack (element r i) Subs x, refl)
named_refused h L (named_sup_not_back r i x F l K q n) = (NotBack (element r i) Sups x, refl)
named_refused h L (named_sub_missing r i x F K q) = (Missing (element r i) Subs x, refl)
named_refused h L (named_sup_missing r i x F l K q) = (Missing (element r i) Sups x, refl)
named_refused h L (named_third_between r i x I F p q t) = (ThirdBetween (element (r - 2) x) (element r i), refl)
named_refused h L (named_lone_between r i x I F p q a o s) = (LoneBetween (element (r - 2) x) (element r i), refl)
named_refused h L (named_not_ascending r i zero F p a n) = (NotAscending (element r i) Subs, refl)
named_refused h L (named_not_ascending r i (suc zero) F p a n) = (NotAscending (element r i) Sups, refl)
named_refused h L (named_not_ascending r i (suc (suc s)) F p a n) = absurd (omega arith)
named_refused h L (of_flags n p q) = from_twenty n (n - 20) (omega arith) q
named_refused h L (named_several_parts o) = (SeveralParts, refl)

pub named_tells : (h : ℕ) (L : Listing) {a : Answer} → Tells (Named h L) a → Refused a
named_tells h L t s = named_refused h L (t s)

pub closed_refused : (L : Listing) → Refused (tests.closed limits L)
closed_refused L = named_tells (rank L) L (closed_named limits L)

-- ---- what carries nothing

pub on_refused : (t : Bool) (d : Refusal) → Refused (on t (answer_of d))
on_refused t d = tells_on OfRefusal t (answer_of d) (λ e. (d, refl))

pub plain_clear : {a : Answer} → Plain a → Clear a
plain_clear p z = p ∙ ap plain z

pub or_refused : (x y : Answer) → Refused x → Refused y → Refused (x or_else y)
or_refused x y p q = tells_or OfRefusal x y p (λ z. q)

pub room_refused : (R : Listing) (c e i : ℕ) → Refused (room_test R c e i)
unfolding short_test
room_refused R c e i =
    on_refused (ltb c (length R.counts) || (ltb e (length R.ends) || ltb i (length R.inc))) OutputShort

pub room_clear : (R : Listing) (c e i : ℕ) → Clear (room_test R c e i)
unfolding short_test
room_clear R c e i =
    clear_plain (ltb c (length R.counts) || (ltb e (length R.ends) || ltb i (length R.inc))) output_short

module _ (m : Limits) (t : List ℕ) where
  form_refused : (l : Line) (s : List ℕ) → Refused (form_test l s)
  unfolding form_test
  form_refused l s = or_refused _ _ (on_refused _ WrongKey) (on_refused _ BadLine)

  bound_refused : (k : ℕ) → Refused (bound_test (bound_at m (said t) k))
  unfolding bound_at bound_of
  bound_refused zero = on_refused _ OverRanks
  bound_refused (suc k) = go (spot (said t) k)
    where
      go : (s : ℕ × ℕ) → Refused (bound_test (bound_of m (said t) s))
      go (r, zero) = on_refused _ OverElements
      go (r, suc i) = on_refused _ OverIncidences

  pub text_refused : Refused (text_test m t)
  unfolding text_test
  text_refused =
      or_refused _ _ (on_refused _ LongText)
      (or_refused _ _
      (tells_of OfRefusal (line_test m t) 0 (line_count (said t)) (λ k l h e. or_refused _ _ (form_refused _ _)
      (bound_refused k)))
      (on_refused _ MoreBytes))

-- ---- what is told so

module _ {t : Answer} (clear : Clear t) (some : Refused t) where
  -- an answer that is told by `tell`, where the value of no refusal is told so, and each refusal too
  pub told_so : {A B : Type 0} (tell : Result A Refusal → B) (b : B) (P : A → Type 0)
      → (t ≡ fine → (x : A) × P x × (tell (Ok x) ≡ b))
      → ((d : Refusal) → t ≡ answer_of d → t.no ≢ 0 → tell (Err d) ≡ b)
      → (d : Result A Refusal) × IfOk d P × (tell d ≡ b)
  told_so {A} {B} tell b P ok err = go (zero_or t.no)
    where
      go : (t.no ≡ 0) ⊎ (t.no ≢ 0) → (d : Result A Refusal) × IfOk d P × (tell d ≡ b)
      go (inl z) = let v = ok (clear z) in (Ok v.0, v.1, v.2)
      go (inr h) = let d = some h in (Err d.0, tt, err d.0 d.1 h)

  pub result_so : {A : Type 0} (P : A → Type 0) → (t ≡ fine → (x : A) × P x)
      → (d : Result A Refusal) × IfOk d P × (told d ≡ t)
  result_so P value = told_so told t P (λ e. let v = value e in (v.0, v.1, sym e)) (λ d e h. sym e)

  -- with no value
  pub test_so : (d : Result (Unit {0}) Refusal) × (told d ≡ t)
  test_so = let d = result_so {A = Unit} (λ x. Unit) (λ e. (tt, tt)) in (d.0, d.2)

  -- a listing that is written
  pub built_so : {R old new : Listing} {r : Built} → Made t R old new r
      → (d : Result Lengths Refusal) × Made t R old new (told_built d) × (r ≡ told_built d)
  unfolding built_of
  built_so {R} {old} {new} {r} m =
      let size : Lengths = record { counts = length R.counts; ends = length R.ends; inc = length R.inc } in
      let d = told_so told_built (built_of t R) (λ n. Unit) (λ e. (size, tt, rw e refl))
      (λ d e h. rw (if_not t.no _ _ h, e) refl) in
      let e = m.answer ∙ sym d.2 in
      (d.0, rw (← e) m, e)

-- a count
pub number_so : (counts : List ℕ) (n : ℕ) → (d : Result ℕ Refusal) × (told_number d ≡ counted counts n)
unfolding counted
number_so [] n = (Err NoRanks, refl)
number_so (c ∷ counts) n = (Ok n, rw (ne_eqb (length (c ∷ counts)) 0 (λ e. omega arith)) refl)
