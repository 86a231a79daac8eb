-- Reading a text, and checking one, answer the number of the first rule that is broken.
-- Assumes nothing.
use mathlib.Core.Path.{◌≡◌}
use mathlib.Core.Logic.{◌⊎◌, inl, inr}
use mathlib.Core.List.{List, ◌++◌}
use Prim.Native.Nat.{ℕ, ◌<◌}
use native.Mathlib.Decide.{dec_lt}
use native.Mathlib.Omega.{arith}
use lib.ListN.{length}
use Rattle.listing.specs.declared.Answer.{Answer}
use Rattle.listing.specs.Answers.{◌or_else◌}
use Rattle.listing.specs.Listing.{Limits}
use Rattle.listing.specs.Rules.{Rule, FirstBroken}
use Rattle.listing.proofs.Answers.{or_fine, or_stop}
use Rattle.listing.proofs.Broken.{zero_or, broken_last}
use Rattle.listing_outputs.proofs.Output.{room_tested}
use Rattle.valid.proofs.TestsBroken.{closed_broken}
use Rattle.text_theory.specs.Said.{listing_in, text_test}
use Rattle.text_theory.proofs.TextTest.{text_long, text_passed}
use Rattle.text_theory.proofs.Accepted.{reads_exactly}
use Rattle.text.specs.Texts.{read_test, check_test}
use Rattle.text.specs.Rules.{text_rules, read_rules, check_rules}
use Rattle.text.proofs.TextNumbers.{own_between, text_numbers}

module _ (m : Limits) (t : List ℕ) where
  -- what is asked of a text, and others after it
  pub text_then : (l : List Rule) (y : Answer) → ((text_test m t).no ≡ 0 → FirstBroken l y.no)
      → FirstBroken (text_rules m t ++ l) (text_test m t or_else y).no
  unfolding FirstBroken
  text_then l y r = go (zero_or (text_test m t).no) (dec_lt m.text (length t))
    where
      go : ((text_test m t).no ≡ 0) ⊎ ((text_test m t).no ≡ 0 → ⊥) → Dec (m.text < length t)
          → FirstBroken (text_rules m t ++ l) (text_test m t or_else y).no
      go (inl z) d = rw (or_fine (text_test m t) y z) (inr ((text_passed m t z).0, inr ((reads_exactly m t).0 z, r z)))
      go (inr s) (yes h) =
          rw (or_stop (text_test m t) y s, text_long m t h) (inl (λ k. omega arith, omega arith, omega arith))
      go (inr s) (no h) =
          let b = own_between (text_test m t).no (text_numbers m t) s in
          rw (or_stop (text_test m t) y s) (inr (omega arith, inl (λ q. s ((reads_exactly m t).1 q), b.0, b.1)))

  pub read_broken : (c e i : ℕ) → FirstBroken (read_rules m t c e i) (read_test m t c e i).no
  unfolding read_test
  read_broken c e i = text_then _ _ (λ z. broken_last (room_tested (listing_in t) c e i))

  pub check_broken : FirstBroken (check_rules m t) (check_test m t).no
  unfolding check_test
  check_broken = text_then _ _ (λ z. closed_broken m (listing_in t))
