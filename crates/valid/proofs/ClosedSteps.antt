-- The steps of the closed test: what a test stands on where those before it refused nothing, and the tests of the
-- lists, which are two tests in one step.
-- Assumes nothing.
use mathlib.Core.Path.{◌≡◌, refl, sym, ◌∙◌}
use lib.ListN.{get_or}
use Rattle.listing.specs.declared.Answer.{Answer}
use Rattle.listing.specs.declared.Refusal.{Refusal}
use Rattle.listing.specs.declared.Slices.{Slices}
use Rattle.listing.specs.Answers.{fine, ◌or_else◌}
use Rattle.listing.specs.Listing.{held}
use Rattle.listing.specs.Told.{answer_of}
use Rattle.listing.proofs.Answers.{no_of, or_assoc}
use Rattle.listing.proofs.Told.{told_err, then_ok, then_halt}
use Rattle.valid.specs.Bounds.{bounded_test}
use Rattle.valid.proofs.BoundsExact.{bounded_exact}

-- the one lowest element
pub lowest : (s : Slices) → fine ≡ bounded_test (held s) → get_or s.counts.now 0 0 ≡ 1
lowest s e = ((bounded_exact (held s)).0 (no_of e refl)).one_minimal

pub accepts : (S : Answer) → fine ≡ S → S.no ≡ 0
accepts S e = no_of e refl

module _ (S T B : Answer) where
  pub two_ok : fine ≡ (S or_else T) → (b : Answer) → b ≡ B → b ≡ S or_else T or_else B
  two_ok e b k = then_ok B e b k ∙ sym (or_assoc S T B)

  pub two_halt : (d : Refusal) → answer_of d ≡ (S or_else T) → answer_of d ≡ S or_else T or_else B
  two_halt d e = then_halt B d e ∙ sym (or_assoc S T B)

pub ruleset closing = (told_err, then_ok, then_halt, lowest, accepts, two_ok, two_halt)
