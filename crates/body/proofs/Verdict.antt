-- The four cases of the test for one body, and the number that is answered in each: that of the first rule that is
-- broken, and each number in one case only.
-- Assumes nothing.
use mathlib.Core.Path.{◌≡◌, refl, ap}
use mathlib.Core.Logic.{◌≢◌, ◌↔◌, ◌⊎◌, inl, inr}
use mathlib.Core.List.{[], ◌∷◌}
use Prim.Native.Nat.{ℕ, suc, ◌≤◌, ◌<◌}
use native.Mathlib.Decide.{dec_lt}
use native.Mathlib.Omega.{arith}
use lib.ListN.{length}
use Rattle.listing.specs.declared.Answer.{Answer}
use Rattle.listing.specs.Refusals.{not_a_flag, more_flags, several_parts}
use Rattle.listing.specs.Answers.{plain, fine}
use Rattle.listing.specs.Listing.{Listing, limits}
use Rattle.listing.specs.Rules.{rule, FirstBroken}
use Rattle.listing.proofs.Answers.{or_fine, or_stop}
use Rattle.listing.proofs.Broken.{zero_or}
use Rattle.valid.specs.Tests.{closed}
use Rattle.valid.specs.Closed.{Closed}
use Rattle.valid.proofs.ClosedExact.{closed_exact}
use Rattle.valid.proofs.TestsBroken.{closed_then}
use Rattle.flag_change.specs.Flags.{start_test}
use Rattle.search.proofs.Numbers.{start_most}
use Rattle.body_theory.specs.Pieces.{OnePiece}
use Rattle.body_theory.specs.InAll.{flags_in_all, ManyFlags}
use Rattle.body_theory.specs.First.{sups_flag}
use Rattle.body_theory.proofs.InAll.{flags_exact}
use Rattle.body_theory.proofs.First.{sups_flag_lem}
use Rattle.body.specs.Body.{whole_search, parts_test, body_test}
use Rattle.body.specs.Exact.{BodyExact}
use Rattle.body.specs.Rules.{body_rules}
use Rattle.body.proofs.FoundAll.{found_piece}
use Rattle.body.proofs.Judged.{parts_more, parts_several, parts_fine}

-- the number of the closed test is less than the others
closed_most : (L : Listing) → (closed limits L).no ≤ not_a_flag
unfolding start_test
closed_most L = go (zero_or (closed limits L).no)
  where
    go : ((closed limits L).no ≡ 0) ⊎ ((closed limits L).no ≢ 0) → (closed limits L).no ≤ not_a_flag
    go (inl z) = omega arith
    go (inr h) = rw (or_stop (closed limits L) _ h) at (start_most limits L (sups_flag L))

-- what holds on both sides, and what on neither
given : {A B : Type 0} → A → B → A ↔ B
given a b = (λ _. b, λ _. a)

never : {A B : Type 0} → ¬ A → ¬ B → A ↔ B
never n m = (λ a. absurd (n a), λ b. absurd (m b))

module _ (L : Listing) (room : ℕ) where
  -- what is answered, and why
  pub data Verdict (t : Answer) : Type 0 where
    not_closed : ¬ Closed limits L → t.no ≢ 0 → t ≡ closed limits L → Verdict t
    too_many : Closed limits L → ManyFlags (suc room) L → t ≡ plain more_flags → Verdict t
    several : Closed limits L → ¬ ManyFlags (suc room) L → ¬ OnePiece L → t ≡ plain several_parts → Verdict t
    one_body : Closed limits L → flags_in_all L ≤ room → OnePiece L → t ≡ fine → Verdict t

  abbrev all : ℕ
  all = flags_in_all L

  abbrev found : ℕ
  found = length (whole_search L room).found

  module _ (C : Closed limits L) where
    -- no flag more than room
    no_more : all ≤ room → ¬ ManyFlags (suc room) L
    no_more h M = omega (arith, (flags_exact C (suc room)).0 M)

    judge : Dec (room < all) → Dec (found < all) → Verdict (parts_test room found all)
    judge (yes l) d = too_many C ((flags_exact C (suc room)).1 l) (parts_more room found all l)
    judge (no l) (yes k) =
        let h : all ≤ room = omega arith in
        several C (no_more h) (λ o. omega (arith, (found_piece C (sups_flag_lem C) room h).1 o))
        (parts_several room found all h k)
    judge (no l) (no k) =
        let h : all ≤ room = omega arith in
        let e : all ≤ found = omega arith in
        one_body C h ((found_piece C (sups_flag_lem C) room h).0 e) (parts_fine room found all h e)

    judged : Verdict (parts_test room found all)
    judged = judge (dec_lt room all) (dec_lt found all)

  pub verdict : Verdict (body_test limits L room)
  unfolding body_test
  verdict = go (zero_or (closed limits L).no)
    where
      go : ((closed limits L).no ≡ 0) ⊎ ((closed limits L).no ≢ 0) → Verdict (body_test limits L room)
      go (inl z) = rw (or_fine (closed limits L) (parts_test room found all) z) (judged ((closed_exact limits L).0 z))
      go (inr h) =
          rw (or_stop (closed limits L) (parts_test room found all) h)
          (not_closed (λ C. h ((closed_exact limits L).1 C)) h refl)

  -- ---- the first rule that is broken

  broken : {t : Answer} → Closed limits L → Verdict t
      → FirstBroken (rule more_flags (¬ ManyFlags (suc room) L) ∷ rule several_parts (OnePiece L) ∷ []) t.no
  unfolding FirstBroken
  broken C (not_closed n h e) = absurd (n C)
  broken C (too_many D M e) = rw e (inl (λ n. n M, omega arith, omega arith))
  broken C (several D n o e) = rw e (inr (n, inl (o, omega arith, omega arith)))
  broken C (one_body D h o e) = rw e (inr (no_more D h, inr (o, refl)))

  -- The number that the test answers is that of the first rule that is broken.
  pub body_broken : FirstBroken (body_rules limits L room) (body_test limits L room).no
  unfolding body_test
  body_broken = closed_then limits L _ _ (λ C. broken C (judged C))

  -- ---- each number has one case

  module _ {t : Answer} where
    said : {a : Answer} → t ≡ a → t.no ≡ a.no
    said e = ap (λ x. x.no) e

    exact : Verdict t → BodyExact limits L room t.no
    exact (not_closed n h e) = record {
      accepts = never h (λ b. n b.0.closed);
      more = never (λ z. omega (arith, said e, closed_most L)) (λ b. n b.0);
      parts = never (λ z. omega (arith, said e, closed_most L)) (λ b. n b.0);
    }
    exact (too_many C M e) = record {
      accepts = never (λ z. omega (arith, said e)) (λ b. b.1 M);
      more = given (said e) (C, M);
      parts = never (λ z. omega (arith, said e)) (λ b. b.1 M);
    }
    exact (several C n o e) = record {
      accepts = never (λ z. omega (arith, said e)) (λ b. o b.0.one_piece);
      more = never (λ z. omega (arith, said e)) (λ b. n b.1);
      parts = given (said e) (C, n, o);
    }
    exact (one_body C h o e) = record {
      accepts = given (said e) (record { closed = C; one_piece = o }, no_more C h);
      more = never (λ z. omega (arith, said e)) (λ b. no_more C h b.1);
      parts = never (λ z. omega (arith, said e)) (λ b. b.2 o);
    }

  -- When the test answers which number.
  pub body_exact : BodyExact limits L room (body_test limits L room).no
  body_exact = exact verdict
