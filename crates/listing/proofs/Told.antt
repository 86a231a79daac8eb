-- Laws of what a result answers, for `?`: each conclusion is what a function has to show where it returns or goes on,
-- and the premises are what it knows there.
--
-- `then` is for steps one after another, `in` for a walk along a list, `of` for one along numbers. -ok is the next step,
-- -halt a refusal on the way, -done and -over the end of a walk; told_err is the return of a refusal by `?`.
use mathlib.Core.Path.{◌≡◌, refl, sym, ◌∙◌}
use mathlib.Core.List.{List}
use Prim.Native.Nat.{ℕ, ◌+◌, ◌≤◌, ◌<◌}
use native.Mathlib.Omega.{arith}
use lib.ListN.{length, get_or, drop}
use Rattle.std.proofs.Common.{Result}
use Rattle.std.specs.Result.{IsErrAnd}
use Rattle.std.proofs.lemmas.Result.{err_from_is_err_and}
use Rattle.listing.specs.declared.Answer.{Answer}
use Rattle.listing.specs.declared.Side.{Side}
use Rattle.listing.specs.declared.Side.TheVariants.{Subs, Sups}
use Rattle.listing.specs.declared.Refusal.{Refusal}
use Rattle.listing.specs.declared.Refusal.TheVariants.{NoRanks, OverRanks, OverElements, WrongEnds, OverIncidences}
use Rattle.listing.specs.declared.Refusal.TheVariants.{FallingEnds, NotBounded, Bare, NotBack, Missing, ThirdBetween}
use Rattle.listing.specs.declared.Refusal.TheVariants.{LoneBetween, NotAscending, NotAFlag, OutsideRanks, MoreFlags}
use Rattle.listing.specs.declared.Refusal.TheVariants.{SeveralParts, LeftInvalid, RightInvalid, CombOfPoint}
use Rattle.listing.specs.declared.Refusal.TheVariants.{ProductRanks, ProductElements, ProductIncidences, OutputShort}
use Rattle.listing.specs.declared.Refusal.TheVariants.{WrongKey, BadLine, LongText, MoreBytes, BytesShort}
use Rattle.listing.specs.declared.Refusal.TheVariants.{NotRankFour, NotOrientable, WrongCoordinates, NotInMetres}
use Rattle.listing.specs.Answers.{fine, ◌or_else◌, first_in, first_of}
use Rattle.listing.specs.Told.{side_no, bare_no, not_back_no, missing_no, answer_of, told}
use Rattle.listing.proofs.Answers.{no_of, stops, or_fine, or_stop, in_next, in_stop, in_end, of_next, of_stop, of_end}

-- each refusal has a number
pub refuses : (d : Refusal) → (answer_of d).no ≡ 0 → ⊥
refuses NoRanks e = absurd (omega arith)
refuses OverRanks e = absurd (omega arith)
refuses OverElements e = absurd (omega arith)
refuses WrongEnds e = absurd (omega arith)
refuses OverIncidences e = absurd (omega arith)
refuses FallingEnds e = absurd (omega arith)
refuses (NotBounded x y) e = absurd (omega arith)
refuses (Bare x Subs) e = absurd (omega arith)
refuses (Bare x Sups) e = absurd (omega arith)
refuses (NotBack x Subs y) e = absurd (omega arith)
refuses (NotBack x Sups y) e = absurd (omega arith)
refuses (Missing x Subs y) e = absurd (omega arith)
refuses (Missing x Sups y) e = absurd (omega arith)
refuses (ThirdBetween x y) e = absurd (omega arith)
refuses (LoneBetween x y) e = absurd (omega arith)
refuses (NotAscending x s) e = absurd (omega arith)
refuses NotAFlag e = absurd (omega arith)
refuses OutsideRanks e = absurd (omega arith)
refuses MoreFlags e = absurd (omega arith)
refuses SeveralParts e = absurd (omega arith)
refuses LeftInvalid e = absurd (omega arith)
refuses RightInvalid e = absurd (omega arith)
refuses CombOfPoint e = absurd (omega arith)
refuses ProductRanks e = absurd (omega arith)
refuses ProductElements e = absurd (omega arith)
refuses ProductIncidences e = absurd (omega arith)
refuses OutputShort e = absurd (omega arith)
refuses WrongKey e = absurd (omega arith)
refuses BadLine e = absurd (omega arith)
refuses LongText e = absurd (omega arith)
refuses MoreBytes e = absurd (omega arith)
refuses BytesShort e = absurd (omega arith)
refuses NotRankFour e = absurd (omega arith)
refuses NotOrientable e = absurd (omega arith)
refuses WrongCoordinates e = absurd (omega arith)
refuses NotInMetres e = absurd (omega arith)

pub side_two : (s : Side) → side_no s < 2
side_two Subs = omega arith
side_two Sups = omega arith

pub bare_some : (s : Side) → 0 < bare_no s
bare_some Subs = omega arith
bare_some Sups = omega arith

pub not_back_some : (s : Side) → 0 < not_back_no s
not_back_some Subs = omega arith
not_back_some Sups = omega arith

pub missing_some : (s : Side) → 0 < missing_no s
missing_some Subs = omega arith
missing_some Sups = omega arith

-- a refusal that equals an answer makes that refuse
pub halts : (d : Refusal) {S : Answer} → answer_of d ≡ S → S.no ≡ 0 → ⊥
halts d e = stops e (refuses d)

-- what `?` returns is the refusal that it met
pub told_err : {A : Type 0} (r : Result A Refusal) (d : Refusal) → IsErrAnd r (λ x. x ≡ d) → told r ≡ answer_of d
told_err r d h = let p = err_from_is_err_and r h in rw (p.1, p.2) refl

-- ---- steps one after another: S, and then B

module _ {S : Answer} (B : Answer) where
  pub then_ok : fine ≡ S → (b : Answer) → b ≡ B → b ≡ S or_else B
  then_ok e b k = k ∙ sym (or_fine S B (no_of e refl))

  pub then_halt : (d : Refusal) → answer_of d ≡ S → answer_of d ≡ S or_else B
  then_halt d e = e ∙ sym (or_stop S B (halts d e))

-- ---- along a list

module _ (W : Answer) (f : ℕ → Answer) (l : List ℕ) (k : ℕ) (e : W ≡ first_in f (drop k l)) where
  pub in_ok : k < length l → fine ≡ f (get_or l k 0) → W ≡ first_in f (drop (k + 1) l)
  in_ok h z = in_next W f l k e h (no_of z refl)

  pub in_halt : k < length l → (d : Refusal) → answer_of d ≡ f (get_or l k 0) → answer_of d ≡ W
  in_halt h d z = z ∙ sym (in_stop W f l k e h (halts d z))

  pub in_done : length l ≤ k → fine ≡ W
  in_done h = sym (in_end W f l k e h)

-- ---- along numbers

module _ (W : Answer) (f : ℕ → Answer) (i n : ℕ) (e : W ≡ first_of f i n) where
  pub of_ok : i < n → fine ≡ f i → W ≡ first_of f (i + 1) n
  of_ok h z = of_next W f i n e h (no_of z refl)

  pub of_halt : i < n → (d : Refusal) → answer_of d ≡ f i → answer_of d ≡ W
  of_halt h d z = z ∙ sym (of_stop W f i n e h (halts d z))

  pub of_over : n ≤ i → fine ≡ W
  of_over h = sym (of_end W f i n e h)

-- ---- for `using`: steps, a walk along a list, a walk along numbers

pub ruleset steps = (told_err, then_ok, then_halt)

pub ruleset along = (told_err, in_ok, in_halt, in_done)

pub ruleset among = (told_err, of_ok, of_halt, of_over)
