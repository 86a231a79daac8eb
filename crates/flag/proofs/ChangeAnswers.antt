-- The answer of a change: of its tests, with their exactness, and as a whole.
-- Assumes nothing.
use mathlib.Core.Path.{◌≡◌, refl, sym, ◌∙◌}
use mathlib.Core.Bool.{Bool, not, ◌&&◌}
use mathlib.Core.List.{List}
use mathlib.Core.Logic.{◌↔◌}
use Prim.Native.Nat.{ℕ, zero, suc, ◌≤◌, ◌<◌}
use native.Mathlib.Omega.{arith}
use borrow.Author.Tests.{lt-ltb, le-ltb, ltb-true, not-false}
use lib.Dec.{ltb}
use lib.ListN.{length}
use Rattle.std.proofs.Common.{Result}
use Rattle.std.specs.Result.{IsErrAnd}
use Rattle.std.proofs.lemmas.Result.{err_from_is_err_and}
use Rattle.listing.specs.declared.Answer.{Answer}
use Rattle.listing.specs.declared.Slices.{Slices}
use Rattle.listing.specs.declared.Refusal.{Refusal}
use Rattle.listing.specs.Refusals.{outside_ranks}
use Rattle.listing.specs.Answers.{plain, fine, on, if_zero}
use Rattle.listing.specs.Listing.{Listing, Limits, limits, held, rank}
use Rattle.listing.specs.Told.{answer_of}
use Rattle.listing.proofs.Answers.{no_of, or_no, no_or, on_no, on_off, if_not}
use Rattle.listing.proofs.Clear.{Clear, clear_or, clear_plain}
use Rattle.listing.proofs.Told.{steps, refuses}
use Rattle.order.proofs.Tests.{and_true, and_off}
use Rattle.valid.specs.Closed.{Closed}
use Rattle.valid.specs.Tests.{closed}
use Rattle.valid.proofs.InClosed.{shaped}
use Rattle.flag_change.specs.Flags.{start_test, IsFlag}
use Rattle.flag_change.proofs.StartExact.{start_exact}
use Rattle.flag.specs.declared.made.Change.{Change}
use Rattle.flag.specs.declared.Changed.{Changed}
use Rattle.flag.specs.Changed.{change_test, changed_as, unchanged_as, changed_of, told_changed}

module _ (m : Limits) (L : Listing) (f : List ℕ) (r : ℕ) where
  -- ---- the ranks that can be changed

  pub between : 0 < r → r < rank L → on (not (ltb 0 r && ltb r (rank L))) (plain outside_ranks) ≡ fine
  between h k = rw (lt-ltb 0 r h, lt-ltb r (rank L) k)

  pub at_lowest : r ≡ 0 → on (not (ltb 0 r && ltb r (rank L))) (plain outside_ranks) ≡ plain outside_ranks
  at_lowest h = rw (le-ltb 0 r (omega arith))

  pub at_highest : rank L ≤ r → on (not (ltb 0 r && ltb r (rank L))) (plain outside_ranks) ≡ plain outside_ranks
  at_highest h = rw (and_off (ltb 0 r) (le-ltb r (rank L) h))

  -- A change is not refused exactly if the listing is closed, the numbers are a flag of it and r is between the ends.
  pub change_exact : (change_test m L f r).no ≡ 0 ↔ (Closed m L × IsFlag L f × (0 < r) × (r < rank L))
  unfolding change_test
  change_exact = (there, back)
    where
      outside : Bool
      outside = not (ltb 0 r && ltb r (rank L))

      there : (change_test m L f r).no ≡ 0 → Closed m L × IsFlag L f × (0 < r) × (r < rank L)
      there e =
          let p = or_no (start_test m L f) _ e in
          let s = (start_exact m L f).0 p.0 in
          let t = and_true _ _ (not-false _ (on_no outside (plain outside_ranks) (λ z. omega arith) p.1)) in
          (s.0, s.1, ltb-true 0 r t.0, ltb-true r (rank L) t.1)

      back : Closed m L × IsFlag L f × (0 < r) × (r < rank L) → (change_test m L f r).no ≡ 0
      back h =
          no_or (start_test m L f) _ ((start_exact m L f).1 (h.0, h.1))
          (on_off outside (plain outside_ranks) (rw (lt-ltb 0 r h.2, lt-ltb r (rank L) h.3)))

-- ---- the answer as a whole

module _ (m : Limits) (L : Listing) (f : List ℕ) (r : ℕ) where
  -- a change that is not refused carries nothing in the fields of its answer
  pub change_clear : Clear (change_test m L f r)
  unfolding change_test
  change_clear = clear_or (start_test m L f) (clear_plain (not (ltb 0 r && ltb r (rank L))) outside_ranks)

  pub changed_answer : (changed_of m L f r).answer ≡ change_test m L f r
  unfolding changed_of changed_as
  changed_answer = go (change_test m L f r).no
    where
      go : (n : ℕ) → let a = change_test m L f r in (if_zero n (changed_as a L f r) (unchanged_as a)).answer ≡ a
      go zero = refl
      go (suc n) = refl

  pub changed_none : {a : Answer} → a ≡ change_test m L f r → (a.no ≡ 0 → ⊥) → unchanged_as a ≡ changed_of m L f r
  unfolding changed_of
  changed_none {a} e h = rw (← e) (sym (if_not a.no (changed_as a L f r) (unchanged_as a) h))

  pub changed_some : (change_test m L f r).no ≡ 0 → changed_as fine L f r ≡ changed_of m L f r
  unfolding changed_of
  changed_some e = rw (change_clear e) refl

-- ---- the same as the code meets it

-- what `?` returns is the refusal that it met
pub change_err : (result : Result Change Refusal) (d : Refusal) → IsErrAnd result (λ x. x ≡ d)
    → told_changed result ≡ unchanged_as (answer_of d)
change_err result d h = let p = err_from_is_err_and result h in rw (p.1, p.2) refl

module _ (s : Slices) (f : List ℕ) (r : ℕ) where
  pub some_rank : (closed limits (held s)).no ≡ 0 → 0 < length s.counts.now
  some_rank e = (shaped s e).some_rank

  pub change_halt : (d : Refusal) → answer_of d ≡ change_test limits (held s) f r
      → unchanged_as (answer_of d) ≡ changed_of limits (held s) f r
  change_halt d e = changed_none limits (held s) f r e (refuses d)

  module _ (t : Slices) (same : t ≡ s) (k : ℕ) (wide : k ≡ r) (e : fine ≡ change_test limits (held s) f r) where
    abbrev asked : Closed limits (held s) × IsFlag (held s) f × (0 < r) × (r < rank (held s))
    asked = (change_exact limits (held s) f r).0 (no_of e refl)

    pub the_flag : IsFlag (held t) f
    the_flag = rw same asked.1

    pub the_rank : (0 < k) × (k < rank (held t))
    the_rank = rw (same, wide) (asked.2, asked.3)

    pub change_ok : (made : Changed) → made ≡ changed_as fine (held t) f k → made ≡ changed_of limits (held s) f r
    change_ok made h = rw (same, wide) at h ∙ changed_some limits (held s) f r (no_of e refl)

pub ruleset ranks = (steps, between, at_lowest, at_highest, some_rank)

pub ruleset answers = (change_err, change_halt, the_flag, the_rank, change_ok)
