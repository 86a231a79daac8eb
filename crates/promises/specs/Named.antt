-- What the refusals say, in words of elements: a refusal is true of what its fields name, and it names the first thing
-- that its test finds wrong. That the tests before it pass is said in Rules.
--
-- FirstAt        element i of rank r exists, at rank low or higher, and each one before it, by rank and then index,
--                from there on is good
-- FirstIn        x stands in a list, and each number before it there is good
-- FirstThird     x stands in a list for the third time, and nothing before it there does
-- Named          each refusal with its fields, and what is then true of the listing; the diamond is asked up to rank h
-- ThreeOf        three different numbers have a property
-- OneOf          exactly one number has a property
-- BetweenNamed   17 and 18 said of elements: three different ones lie between, or exactly one does
use Rattle.std.specs.Prelude.{◌≡◌, ◌≢◌, List, [], ◌∷◌, ◌++◌, ℕ, ◌+◌, ◌-◌, ◌≤◌, ◌<◌}
use Rattle.order.specs.Lists.{Earlier, In, Ascending, occurs}
use Rattle.listing.specs.declared.Answer.{Answer}
use Rattle.listing.specs.Refusals.{no_ranks, falling_ends, not_bounded, no_subs, no_sups, sub_not_back, sup_not_back}
use Rattle.listing.specs.Refusals.{sub_missing, sup_missing, third_between, lone_between, not_ascending}
use Rattle.listing.specs.Refusals.{not_a_flag, more_flags}
use Rattle.listing.specs.Refusals.{several_parts}
use Rattle.listing.specs.Answers.{plain, refusal}
use Rattle.listing.specs.Listing.{Listing, rank, count, side, subs, sups}
use Rattle.valid_incidence.specs.Incidence.{SubBack, SupBack, LowerAt, IncidentAt, Incident}
use Rattle.valid_diamond.specs.Dyadic.{walk, LiesBetween, MetTwiceAt}
use Rattle.valid.specs.Bounds.{Bounded}
use Rattle.valid.specs.Ascent.{AscendsAt}
use Rattle.body_theory.specs.Pieces.{OnePiece}

pub record FirstAt (L : Listing) (low : ℕ) (Good : ℕ → ℕ → Type 0) (r i : ℕ) : Type 0 where
  pub exists : i < count L r
  pub from : low ≤ r
  pub earlier : (q j : ℕ) → low ≤ q → j < count L q → Earlier q j r i → Good q j

pub record FirstIn (Good : ℕ → Type 0) (x : ℕ) (l : List ℕ) : Type 0 where
  pub done : List ℕ
  pub rest : List ℕ
  pub stands : l ≡ done ++ x ∷ rest
  pub earlier : (y : ℕ) → In y done → Good y

pub record FirstThird (x : ℕ) (l : List ℕ) : Type 0 where
  pub done : List ℕ
  pub rest : List ℕ
  pub stands : l ≡ done ++ x ∷ rest
  pub twice : occurs x done ≡ 2
  pub earlier : (y : ℕ) → occurs y done ≤ 2

pub data Named (h : ℕ) (L : Listing) : Answer → Type 0 where
  -- 1 to 6 carry nothing
  of_shape : (n : ℕ) → no_ranks ≤ n → n ≤ falling_ends → Named h L (plain n)
  -- 10: the elements of rank 0 and of the top rank, which are not both one
  named_not_bounded : ¬ Bounded L → Named h L (refusal not_bounded (count L 0) (count L (rank L)) 0 0)
  -- 11: element i of rank r, above rank 0, has no subs
  named_no_subs : (r i : ℕ) → FirstAt L 0 (IncidentAt L) r i → 0 < r → subs L r i ≡ []
      → Named h L (refusal no_subs r i 0 0)
  -- 12: element i of rank r, below the top, has no sups
  named_no_sups : (r i : ℕ) → FirstAt L 0 (IncidentAt L) r i → LowerAt L r i → r < rank L → sups L r i ≡ []
      → Named h L (refusal no_sups r i 0 0)
  -- 13: element i of rank r has the sub x, which exists one rank lower and does not list it back
  named_sub_not_back : (r i x : ℕ) → FirstAt L 0 (IncidentAt L) r i → FirstIn (SubBack L r i) x (subs L r i) → 0 < r
      → x < count L (r - 1) → ¬ In i (sups L (r - 1) x) → Named h L (refusal sub_not_back r i x 0)
  -- 14: element i of rank r has the sup x, which exists one rank higher and does not list it back
  named_sup_not_back : (r i x : ℕ) → FirstAt L 0 (IncidentAt L) r i → LowerAt L r i
      → FirstIn (SupBack L r i) x (sups L r i) → x < count L (r + 1) → ¬ In i (subs L (r + 1) x)
      → Named h L (refusal sup_not_back r i x 0)
  -- 15: element i of rank r has the sub x, and there is none such one rank lower; at rank 0 there is never one
  named_sub_missing : (r i x : ℕ) → FirstAt L 0 (IncidentAt L) r i → FirstIn (SubBack L r i) x (subs L r i)
      → (0 < r → count L (r - 1) ≤ x) → Named h L (refusal sub_missing r i x 0)
  -- 16: element i of rank r has the sup x, and there is none such one rank higher
  named_sup_missing : (r i x : ℕ) → FirstAt L 0 (IncidentAt L) r i → LowerAt L r i
      → FirstIn (SupBack L r i) x (sups L r i) → count L (r + 1) ≤ x → Named h L (refusal sup_missing r i x 0)
  -- 17: all incidences being kept, element x, two ranks under element i of rank r, is met a third time among the subs
  -- of that one's subs
  named_third_between : (r i x : ℕ) → Incident L → FirstAt L 2 (MetTwiceAt L) r i → r ≤ h → x < count L (r - 2)
      → FirstThird x (walk L r i) → Named h L (refusal third_between (r - 2) x r i)
  -- 18: there none is met a third time, and x is the smallest that is met only once
  named_lone_between : (r i x : ℕ) → Incident L → FirstAt L 2 (MetTwiceAt L) r i → r ≤ h → x < count L (r - 2)
      → ((y : ℕ) → occurs y (walk L r i) ≤ 2) → occurs x (walk L r i) ≡ 1
      → ((y : ℕ) → y < x → occurs y (walk L r i) ≢ 1) → Named h L (refusal lone_between (r - 2) x r i)
  -- 19: the subs (0) or the sups (1) of element i of rank r do not strictly ascend
  named_not_ascending : (r i s : ℕ) → FirstAt L 0 (AscendsAt L) r i → s < 2
      → ((t : ℕ) → t < s → Ascending (side L t r i)) → ¬ Ascending (side L s r i)
      → Named h L (refusal not_ascending r i s 0)
  -- 20 to 22 carry nothing
  of_flags : (n : ℕ) → not_a_flag ≤ n → n ≤ more_flags → Named h L (plain n)
  -- 25 carries nothing: the flags are not in one piece
  named_several_parts : ¬ OnePiece L → Named h L (plain several_parts)

pub record ThreeOf (P : ℕ → Type 0) : Type 0 where
  pub one : ℕ
  pub two : ℕ
  pub three : ℕ
  pub apart : (one ≢ two) × (one ≢ three) × (two ≢ three)
  pub each : P one × P two × P three

pub record OneOf (P : ℕ → Type 0) : Type 0 where
  pub one : ℕ
  pub first : P one
  pub no_second : (w : ℕ) → P w → w ≡ one

pub record BetweenNamed (L : Listing) (a : Answer) : Type 0 where
  pub three : a.no ≡ third_between → ThreeOf (LiesBetween L a.c a.d a.b)
  pub single : a.no ≡ lone_between → OneOf (LiesBetween L a.c a.d a.b)
